pub mod Compacts
pub mod Squeezed
pub mod Stands
