pub mod Merged
mod Placed
pub mod Places
mod Slots
