-- What taking a record apart answers.
pub mod Answers
