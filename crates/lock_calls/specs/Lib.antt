pub mod Choices
pub mod Rounds
pub mod Steps
pub mod Sections
pub mod Waiting
pub mod Takes
pub mod Tries
pub mod Releases
