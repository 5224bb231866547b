pub mod Answers
pub mod Headline
pub mod Numbers
pub mod Output
pub mod Round
pub mod Run
