pub mod Elements
pub mod Strings
pub mod Pieces
pub mod Units
pub mod Whole
