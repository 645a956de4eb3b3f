pub mod Pointers
pub mod Lines
