pub mod Decoded
pub mod Bare
