-- Laws of the bill: a record's statement, a buffer filled from the front, and a turn of the loop.
pub mod Closing
pub mod Front
pub mod Along
pub mod Turn
