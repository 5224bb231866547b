pub mod Texts
pub mod Meanings
pub mod Keys
pub mod Choices
pub mod Answers
pub mod Shapes
