pub mod Changed
pub mod Kept
pub mod Others
pub mod Passes
pub mod Ticking
