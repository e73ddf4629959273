-- Late events from their bytes to the printed lines.
pub mod Figures
