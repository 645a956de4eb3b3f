pub mod Numbers
pub mod Refusals
pub mod Tied
pub mod Demands
