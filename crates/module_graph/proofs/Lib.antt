mod ByPath
mod Builds
mod LeastAddresses
mod Order
mod Rows
pub mod Shortlex
pub mod Sights
