-- What is asked of all that a record lists, and how the loops over listed registrations and deficits go.
pub mod Asked
pub mod Passes
