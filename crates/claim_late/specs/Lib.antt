-- Events that come late, and that a list without any is answered as before.
pub mod Late
