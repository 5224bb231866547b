pub mod Exported
pub mod Seeing
pub mod Entries
pub mod Noting
pub mod Saying
pub mod Origins
pub mod Passing
