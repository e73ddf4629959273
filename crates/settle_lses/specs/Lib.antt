-- What the LSEs are credited, from the working table's rows.
pub mod Lses
