pub mod Claims
pub mod Putting
pub mod Rules
pub mod Steps
pub mod Spreading
pub mod Reading
