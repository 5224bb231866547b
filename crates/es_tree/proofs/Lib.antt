pub mod Examples
pub mod ReservedLaws
pub mod RunLaws
pub mod TokenLaws
