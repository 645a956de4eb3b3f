pub mod Parsing
pub mod Reading
pub mod Unfolding
pub mod Writing
