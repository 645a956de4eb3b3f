pub mod Spelled
pub mod Marked
pub mod Going
