-- What is owed: definitions, and figures of them.
pub mod Facts
pub mod Owed
pub mod Retests
pub mod Divisions
pub mod Figures
