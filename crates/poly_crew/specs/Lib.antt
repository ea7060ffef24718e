pub mod Counts
pub mod Ends
pub mod Hints
pub mod Rule
pub mod Views
pub mod Worked
pub mod Seen
