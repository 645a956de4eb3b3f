pub mod Numbers
pub mod Classes
