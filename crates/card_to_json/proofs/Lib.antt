pub mod Inner
pub mod Steps
pub mod Making
pub mod Serving
