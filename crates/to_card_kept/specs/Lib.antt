pub mod Kept
pub mod Puts
