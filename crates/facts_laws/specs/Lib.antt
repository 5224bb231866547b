pub mod Conditions
pub mod Plain
