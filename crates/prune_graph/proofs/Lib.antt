pub mod Keeping
pub mod Gaining
pub mod NameOrder
pub mod SiteUses
pub mod Passes
pub mod EdgeParts
pub mod Led
pub mod MeetingMore
