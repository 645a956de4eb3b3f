pub mod Lanes
pub mod Firsts
pub mod Runs
pub mod Loads
pub mod Classes
pub mod Meanings
pub mod Stores
