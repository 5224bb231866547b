mod Builds
pub mod Meets
mod Putting
