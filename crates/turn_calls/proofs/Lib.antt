pub mod Rounds
pub mod States
pub mod Shown
