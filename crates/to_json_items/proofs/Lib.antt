pub mod Own
pub mod Pieces
pub mod Arrays
