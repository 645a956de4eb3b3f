pub mod Read
pub mod Split
