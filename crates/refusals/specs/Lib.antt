pub mod Numbers
pub mod Asked
