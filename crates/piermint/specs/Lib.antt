-- What the calls for C leave.
pub mod Leaves
