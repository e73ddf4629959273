-- The records of a file, and a part of a file that answers as the whole does.
pub mod Walk
pub mod WalkLaws
pub mod Window
