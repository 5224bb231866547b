pub mod Standing
pub mod Changes
pub mod Before
pub mod Calls
pub mod Chunks
pub mod Writing
