pub mod Joining
pub mod Steps
pub mod Whole
pub mod Names
pub mod Others
