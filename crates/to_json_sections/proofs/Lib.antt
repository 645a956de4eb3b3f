pub mod Props
pub mod Lines
pub mod Firsts
pub mod Print
