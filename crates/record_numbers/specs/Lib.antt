pub mod Calls
pub mod Parsing
pub mod Accepted
pub mod RoundTrip
pub mod Reductions
pub mod Figures
pub mod ReductionLaws
