pub mod Garbled
