-- The numbers that reading leaves in a buffer.
pub mod Answers
