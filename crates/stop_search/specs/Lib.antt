pub mod Ways
pub mod Searching
