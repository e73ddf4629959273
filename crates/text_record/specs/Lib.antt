-- A record as a line of text.
pub mod Line
pub mod Lines
pub mod Packs
