mod Answered
mod Members
mod Merged
mod NamedApart
