pub mod Bare
pub mod Putting
pub mod Tables
pub mod Elements
pub mod Values
pub mod Whole
