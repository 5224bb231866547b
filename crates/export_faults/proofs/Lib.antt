pub mod Ordering
pub mod Least
pub mod Asked
