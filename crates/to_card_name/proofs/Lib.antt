pub mod Members
pub mod Orders
pub mod Rows
pub mod Whole
pub mod Fulls
