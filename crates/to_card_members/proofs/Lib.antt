pub mod Pointers
pub mod Values
pub mod Others
pub mod Loop
