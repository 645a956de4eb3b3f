pub mod Elements
pub mod Components
pub mod Values
pub mod Passes
pub mod Rows
