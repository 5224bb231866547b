pub mod Leading
pub mod Ways
pub mod Waiting
pub mod Searching
