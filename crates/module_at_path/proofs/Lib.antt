pub mod Names
pub mod Outlines
pub mod Texts
pub mod Files
