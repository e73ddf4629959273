pub mod Lines
pub mod Pasted
pub mod LineLaws
pub mod Find
pub mod Digits
pub mod Words
