pub mod Points
pub mod Plain
