-- The proof that a list without late events is answered as before.
pub mod Theorem
