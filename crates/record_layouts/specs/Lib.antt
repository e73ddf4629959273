pub mod Layout
pub mod Questions
pub mod Parts
pub mod LayoutLaws
pub mod QuestionLaws
pub mod PartLaws
pub mod ListLaws
