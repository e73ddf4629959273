-- What the bill program prints.
pub mod Answer
pub mod AnswerLaws
pub mod Step
