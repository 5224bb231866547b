pub mod Around
pub mod First
pub mod Names
pub mod Refusing
