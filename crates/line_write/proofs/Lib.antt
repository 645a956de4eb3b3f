pub mod Folding
pub mod Naming
