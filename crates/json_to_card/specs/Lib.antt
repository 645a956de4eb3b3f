pub mod Inner
pub mod Making
pub mod Opened
