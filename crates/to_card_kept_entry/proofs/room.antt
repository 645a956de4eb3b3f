pub mod Costs
pub mod Units
pub mod Room
