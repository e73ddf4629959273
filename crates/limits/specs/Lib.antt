-- The limits of document 01, each once.
pub mod Limits
