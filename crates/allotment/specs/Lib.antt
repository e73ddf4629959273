-- The definitions and laws of allotment.
pub mod Allot
pub mod Divisions
pub mod Lists
pub mod Stepper
