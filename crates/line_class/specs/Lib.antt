pub mod Classes
pub mod Odd
