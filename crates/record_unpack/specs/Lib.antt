-- What the proofs of reading share.
pub mod Reading
