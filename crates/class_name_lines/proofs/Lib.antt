pub mod Derived
pub mod Names
pub mod Full
