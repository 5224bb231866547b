pub mod Basics
pub mod NumberLaws
pub mod OwnLaws
pub mod AloneLaws
pub mod TouchLaws
