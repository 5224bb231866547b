pub mod Known
pub mod PassingOn
pub mod Gathering
pub mod AtSites
pub mod PassedNames
pub mod RowEdges
pub mod Meeting
