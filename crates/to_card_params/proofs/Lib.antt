pub mod Walk
pub mod Flags
pub mod Prefs
pub mod Types
