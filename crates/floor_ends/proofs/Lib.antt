pub mod Merging
pub mod Mergeable
