-- The questions, their answers, and what a record that passes them has.
pub mod Questions
pub mod Answers
pub mod Admitted
pub mod Blind
