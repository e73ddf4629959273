-- A record with names, and laws of it.
pub mod Record
pub mod Events
pub mod Within
pub mod RecordLaws
