pub mod Exact
mod Linking
mod Stored
mod Trails
mod Stems
