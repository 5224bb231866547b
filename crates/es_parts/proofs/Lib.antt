pub mod OpenFrames
pub mod Following
pub mod DeclaredBy
