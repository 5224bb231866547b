mod Entries
mod Rows
mod Texts
mod Within
