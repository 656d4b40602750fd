pub mod Heads
pub mod Kept
pub mod Lookups
pub mod Names
pub mod Behind
