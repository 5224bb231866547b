pub mod Flags
pub mod Passing
pub mod Falling
