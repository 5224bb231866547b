pub mod SamePlans
mod Unused
mod SameEdges
mod SameGroups
mod SameIds
mod SameChunks
mod SingleSets
mod SameNames
mod SameScopes
mod FlaggedEdges
pub mod OnePlan
