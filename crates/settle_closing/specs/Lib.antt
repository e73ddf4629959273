-- The passes over the accepted events, one after the other.
pub mod Passes
pub mod Closing
