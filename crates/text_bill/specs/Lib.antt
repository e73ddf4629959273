pub mod Text
pub mod TextLaws
pub mod Lies
pub mod Put
