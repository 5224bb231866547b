pub mod Tokens
pub mod Trees
pub mod Refusals
pub mod DefaultValueTree
