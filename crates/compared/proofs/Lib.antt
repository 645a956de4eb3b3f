pub mod Harness
pub mod Card
pub mod Json
pub mod Normcard
pub mod Normjson
pub mod Lookup
pub mod Stream
