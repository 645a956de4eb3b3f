pub mod Inner
pub mod Laying
pub mod Making
