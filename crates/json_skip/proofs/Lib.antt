pub mod Leads
pub mod Steps
pub mod Strings
pub mod Values
pub mod Ends
pub mod Soft
