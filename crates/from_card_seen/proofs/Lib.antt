pub mod Prints
pub mod Keys
pub mod Settling
