pub mod Numbers
pub mod Pinned
pub mod Righted
pub mod Differences
pub mod Grow
pub mod Planned
pub mod Marks
pub mod RunOut
pub mod Untouched
pub mod Updated
pub mod Ordered
pub mod Rows
pub mod Indexed
pub mod Found
pub mod Merging
pub mod Between
pub mod Arrives
mod Begun
