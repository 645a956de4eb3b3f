pub mod Pointing
pub mod Values
pub mod Members
