pub mod Values
pub mod Rows
pub mod Faults
pub mod Settings
pub mod Seen
pub mod Merging
pub mod Reading
pub mod Config
