-- The proof of when a seller has had a retest.
pub mod HadRetest
