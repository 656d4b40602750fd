mod Changed
mod Joined
pub mod Shallow
