pub mod Finds
pub mod Held
