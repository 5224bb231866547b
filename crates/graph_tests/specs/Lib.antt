pub mod Requiring
