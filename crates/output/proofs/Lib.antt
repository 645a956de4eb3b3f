pub mod Laws
pub mod Pieces
pub mod Rows
pub mod Rests
