-- An event's charges entry by entry.
pub mod Charging
pub mod Pricing
