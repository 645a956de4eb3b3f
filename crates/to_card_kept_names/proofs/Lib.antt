pub mod Noting
pub mod Groups
