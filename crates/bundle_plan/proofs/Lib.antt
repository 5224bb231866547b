pub mod Sets
pub mod PutNames
pub mod Steps
pub mod Entries
