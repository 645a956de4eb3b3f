pub mod Copied
pub mod Firsts
pub mod Pieces
pub mod Stands
pub mod Text
pub mod Tied
pub mod Whole
