pub mod Texts
pub mod Noting
