pub mod Table
pub mod Runs
pub mod Agree
pub mod Odd
