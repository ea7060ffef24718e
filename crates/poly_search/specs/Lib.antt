pub mod Chains
pub mod Grows
pub mod Searches
pub mod Sweeps
pub mod Walked
pub mod Whole
