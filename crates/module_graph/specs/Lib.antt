pub mod Known
pub mod Building
pub mod Addresses
pub mod Shortlex
pub mod ModuleOrder
pub mod Sightings
pub mod Soundness
pub mod ModuleGraph
