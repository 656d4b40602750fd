pub mod Wakes
pub mod Waits
pub mod Sleeping
pub mod Parts
