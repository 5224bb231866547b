pub mod Outline
pub mod Outlined
