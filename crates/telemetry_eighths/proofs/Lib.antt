-- Laws of the values that count, their exact difference and their cast to whole kW; and of the patterns of a NaN.
pub mod Differences
pub mod Casts
pub mod Patterns
