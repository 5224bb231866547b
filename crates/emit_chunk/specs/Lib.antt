pub mod Bare
pub mod Entry
pub mod Factories
pub mod Joined
pub mod Marks
pub mod Ranges
pub mod Runtime
