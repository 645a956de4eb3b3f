pub mod Whole
pub mod Rows
pub mod Dashes
pub mod Ids
pub mod Heads
pub mod Marking
pub mod Turns
