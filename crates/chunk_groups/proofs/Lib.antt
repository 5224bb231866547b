pub mod Calls
pub mod Gathering
pub mod LedGroups
pub mod LineRows
pub mod Grouped
