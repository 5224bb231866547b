pub mod Bodies
pub mod Grammar
pub mod Modules
pub mod Reading
pub mod Scans
