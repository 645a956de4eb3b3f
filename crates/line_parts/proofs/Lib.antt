pub mod Escapes
pub mod Filled
pub mod Counts
