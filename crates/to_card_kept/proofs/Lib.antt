pub mod Entry
pub mod Loop
pub mod Runs
pub mod Whole
