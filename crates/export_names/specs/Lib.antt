pub mod Collected
pub mod Indexed
pub mod Searching
pub mod Starred
