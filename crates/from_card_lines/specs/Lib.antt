pub mod Classified
