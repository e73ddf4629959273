-- Pass 1, event by event and entry by entry.
pub mod Counting
