pub mod Words
pub mod Fours
pub mod Types
pub mod Final
