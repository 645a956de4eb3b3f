pub mod Physical
pub mod Frames
