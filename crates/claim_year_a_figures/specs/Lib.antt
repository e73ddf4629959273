-- Year A from its bytes to its printed lines, and the claims made of it.
pub mod Figures
pub mod Claims
