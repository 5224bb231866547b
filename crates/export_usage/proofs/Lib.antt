pub mod SameFact
pub mod Learning
pub mod OneName
pub mod Least
pub mod Truth
pub mod Following
pub mod Onward
pub mod ReadOff
