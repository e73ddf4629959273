-- The year in cells into which the rows of a step were laid.
pub mod StepsLaid
pub mod Unmarked
pub mod SetupLaid
