pub mod Conditions
pub mod BundlePlans
pub mod Faults
