pub mod Members
pub mod Name
pub mod Groups
