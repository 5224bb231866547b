pub mod Cuts
pub mod Stars
pub mod Best
pub mod Turns
pub mod Whole
