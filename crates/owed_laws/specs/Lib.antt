-- The laws of what is owed.
pub mod Rates
pub mod Limits
pub mod Sellers
pub mod Allotments
pub mod Cap
pub mod Balance
pub mod Independent
pub mod Retested
pub mod Unlisted
pub mod Parties
pub mod Bounds
pub mod Totals
