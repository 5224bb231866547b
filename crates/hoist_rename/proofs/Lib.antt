pub mod Kept
pub mod Tried
pub mod Giving
pub mod Rows
