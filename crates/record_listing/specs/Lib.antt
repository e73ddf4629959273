-- What a record lists: that it is sound, and as a row by id.
pub mod Listed
pub mod Spread
pub mod Items
