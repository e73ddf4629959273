-- The rates in force and the caps, in the working table.
pub mod Rating
pub mod AreaSums
pub mod Entering
