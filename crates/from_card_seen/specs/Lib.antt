pub mod Ids
pub mod Settled
