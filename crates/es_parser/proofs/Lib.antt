mod Levels
mod Outlining
