pub mod Rows
pub mod Texts
pub mod Worked
pub mod Written
