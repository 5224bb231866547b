pub mod Drafting
pub mod Going
mod Examples
