-- The working table: its rows, their laws, and the registrations' terms in it.
pub mod Rows
pub mod Places
pub mod Columns
pub mod Allotments
