pub mod Body
pub mod Meaning
pub mod Parts
pub mod Scanning
pub mod Statements
pub mod Tokens
