-- What the steps of writing hand on, and what its proofs share.
pub mod Lists
pub mod Encoding
