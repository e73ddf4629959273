-- Pass 2: sums by seller, and shortfalls and excesses from them.
pub mod Sums
pub mod Weighing
pub mod Sharing
pub mod OffPeak
