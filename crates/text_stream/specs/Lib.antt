-- A window of a lent buffer.
pub mod Filled
pub mod Found
pub mod Room
