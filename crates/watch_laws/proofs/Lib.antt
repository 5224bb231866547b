mod FirstSights
mod OneNumbering
mod OneModules
mod OneWalks
pub mod OneAnswer
mod BareTrees
mod FittingTrees
