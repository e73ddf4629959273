-- What is asked of a record's entries and deficits, of one registration, and which registrations are meant.
pub mod Entries
pub mod Meets
pub mod Selects
