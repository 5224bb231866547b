pub mod Ties
pub mod Turns
