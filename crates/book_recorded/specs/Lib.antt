-- What a list of accepted records says, and that the steps of a year keep just this.
pub mod After
pub mod Recorded
pub mod Gathered
pub mod Booked
