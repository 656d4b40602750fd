pub mod Seen
pub mod Lists
pub mod Changes
pub mod Linked
