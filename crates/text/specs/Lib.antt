pub mod Choice
pub mod Bytes
pub mod Utf8
pub mod Scalar
pub mod Decimal
pub mod Listed
pub mod Reader
pub mod Places
