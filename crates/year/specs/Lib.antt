pub mod Year
pub mod Steps
pub mod Listing
pub mod Sound
pub mod StaysSound
pub mod ListingLaws
pub mod Limits
