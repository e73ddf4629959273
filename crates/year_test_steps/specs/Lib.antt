-- The year in cells into which the entries of a test or a retest were laid.
pub mod Tests
pub mod Laying
pub mod Entered
