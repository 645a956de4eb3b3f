pub mod Params
pub mod Members
