pub mod Sums
pub mod Steps
pub mod Workers
pub mod Crossing
