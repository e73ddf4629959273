-- What a sample is answered, with figures, and laws of it.
pub mod Reduction
pub mod Limits
