pub mod Scopes
pub mod Standing
pub mod Steps
pub mod Going
pub mod Taking
pub mod Rooting
pub mod Walks
