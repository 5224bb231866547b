pub mod Ranges
pub mod Marking
pub mod FreeNumbers
pub mod Numbering
pub mod Together
