mod EntryPlans
mod FirstPlaces
mod Keeping
mod Ranges
mod Search
mod Within
