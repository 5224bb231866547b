pub mod Importing
pub mod Ready
