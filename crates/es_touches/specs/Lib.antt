pub mod Touches
pub mod Told
