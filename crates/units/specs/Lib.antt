-- The definitions and laws of the units.
pub mod Units
