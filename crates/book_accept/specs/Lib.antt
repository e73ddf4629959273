-- What an accepted record leaves, and what it fulfils.
pub mod Leaves
pub mod Suits
pub mod Closing
