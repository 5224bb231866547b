pub mod Texts
pub mod Gathering
pub mod Forwarding
pub mod Free
pub mod Requested
pub mod Asked
pub mod Numbering
pub mod Passing
