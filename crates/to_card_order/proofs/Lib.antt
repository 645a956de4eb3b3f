pub mod Places
pub mod Apart
pub mod Noted
