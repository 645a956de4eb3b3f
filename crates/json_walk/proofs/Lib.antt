pub mod Values
pub mod Marks
pub mod Steps
pub mod Laws
pub mod Each
