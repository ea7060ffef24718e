pub mod Points
pub mod EachBelow
pub mod Turns
pub mod Neighbours
pub mod Order
