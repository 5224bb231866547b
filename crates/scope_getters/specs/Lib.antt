pub mod Scopes
pub mod Gaining
