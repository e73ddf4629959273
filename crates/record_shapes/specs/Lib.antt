-- A record's lists and shape.
pub mod Shapes
