pub mod TextLaws
pub mod Gathering
pub mod ForwardingLaws
pub mod FreeLaws
pub mod Requested
pub mod AskedLaws
pub mod Firsts
pub mod Passed
