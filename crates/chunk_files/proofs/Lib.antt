pub mod Entries
pub mod FirstPlaces
pub mod Penning
pub mod Places
pub mod Requiring
pub mod Within
