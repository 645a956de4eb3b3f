pub mod Due
pub mod Met
