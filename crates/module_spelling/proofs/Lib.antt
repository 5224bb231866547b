pub mod FoundFits
pub mod AtSite
