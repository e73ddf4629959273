-- What a call does, by what it is lent.
pub mod Takes
