pub mod Around
pub mod Frames
pub mod Binding
