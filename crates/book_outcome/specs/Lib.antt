-- The outcome of a call, and its laws.
pub mod Outcome
pub mod Numbers
pub mod Made
pub mod StaysSound
pub mod Posting
