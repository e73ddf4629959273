-- The statement, its parties, and what a reader finds in its bytes.
pub mod Statement
pub mod Lines
pub mod Sizes
pub mod Columns
pub mod Marks
pub mod Value42
pub mod ReadBack
pub mod Reading
pub mod Starts
pub mod ReadBackLaws
pub mod WrittenFields
