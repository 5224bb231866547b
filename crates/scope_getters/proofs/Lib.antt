pub mod Gaining
pub mod Calling
pub mod CellGains
pub mod Listing
pub mod Heads
