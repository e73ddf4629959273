-- The entries of all tests, which of them stand, and their sums by group and seller.
pub mod Entries
pub mod Sums
