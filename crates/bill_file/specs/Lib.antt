-- The bill of a record file.
pub mod Billed
