pub mod Marks
pub mod Tables
pub mod Inside
pub mod Meant
pub mod Done
pub mod Listing
