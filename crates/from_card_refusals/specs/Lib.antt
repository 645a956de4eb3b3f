pub mod Line
pub mod Judged
