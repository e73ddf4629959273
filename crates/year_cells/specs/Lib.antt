-- Rows in a list of numbers, and the year that stands in the cells.
pub mod Places
pub mod Rows
pub mod Layout
pub mod Regions
