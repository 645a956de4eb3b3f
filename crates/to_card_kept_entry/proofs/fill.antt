pub mod Distinct
pub mod Composed
pub mod Rest
pub mod Fill
