pub mod Tree
pub mod Grammar
pub mod Syntax
pub mod Strings
pub mod Read
pub mod Compact
pub mod Classes
pub mod Lookup
