-- Records made from samples: the claim, that there are such records, and one worked by hand.
pub mod Sampled
pub mod Figures
