pub mod FactsFitting
mod FactsRequests
mod FilePaths
mod Finding
mod Looking
mod Outwards
pub mod Seeing
mod Visiting
mod WalkEnds
pub mod WalkPaths
mod WalkSteps
