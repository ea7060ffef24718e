pub mod Linked
pub mod Words
pub mod Jumps
pub mod Tries
pub mod Stems
pub mod Trails
