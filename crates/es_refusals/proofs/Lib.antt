pub mod Gathered
pub mod FreeNames
pub mod InnerNames
pub mod Calling
pub mod LookingAround
pub mod Refusing
pub mod FirstFound
