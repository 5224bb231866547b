pub mod FirstErrors
pub mod Judging
pub mod ByName
pub mod Judged
pub mod Fitting
mod Exported
