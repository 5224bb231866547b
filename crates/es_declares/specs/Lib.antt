pub mod Binds
pub mod Found
pub mod Importing
pub mod Inside
pub mod Unnamed
pub mod Numbering
