pub mod Lists
pub mod Marking
pub mod Standing
pub mod Gathers
pub mod Orders
pub mod Turning
pub mod PickSteps
pub mod Numbered
