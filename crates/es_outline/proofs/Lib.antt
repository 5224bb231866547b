pub mod Joins
pub mod Opens
pub mod Laws
pub mod Rolled
pub mod Adding
