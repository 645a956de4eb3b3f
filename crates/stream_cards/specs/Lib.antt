pub mod Promise
pub mod Calls
