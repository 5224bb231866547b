pub mod Joined
pub mod Passing
