pub mod Lines
pub mod Values
pub mod ToCard
pub mod Normal
pub mod Stream
pub mod Json
