pub mod Params
pub mod Whole
