-- An event's credits entry by entry.
pub mod Crediting
