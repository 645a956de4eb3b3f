pub mod Adding
pub mod Turns
pub mod Unfolding
pub mod Lookup
