-- Demand 3: the claim, and what it is made of.
pub mod Runs
pub mod Claim
pub mod Taking
pub mod Admitted
pub mod NotEmpty
pub mod Columns
pub mod Files
