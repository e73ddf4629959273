-- The entries of tests and retests in the cells.
pub mod Tested
