-- The loop's invariant.
pub mod Begun
