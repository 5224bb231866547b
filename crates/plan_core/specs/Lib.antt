pub mod Edges
pub mod Closure
pub mod Scopes
pub mod NaturalIds
pub mod Plans
pub mod Outputs
