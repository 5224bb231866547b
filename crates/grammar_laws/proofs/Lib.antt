pub mod Fits
pub mod Derivations
pub mod Unopened
pub mod DefaultValueDerivation
