-- When a value counts, with figures; laws of values in eighths.
pub mod Eighths
pub mod Values
pub mod Compared
