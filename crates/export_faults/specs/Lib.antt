pub mod Questions
pub mod Asking
pub mod Order
pub mod Faults
