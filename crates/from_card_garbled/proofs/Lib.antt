pub mod First
pub mod Lines
