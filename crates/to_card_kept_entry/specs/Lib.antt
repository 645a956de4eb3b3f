pub mod strings
pub mod table
pub mod entry
pub mod fill
pub mod writing
