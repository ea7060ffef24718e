pub mod Spot
pub mod Grid
pub mod Refusal
pub mod Laws
