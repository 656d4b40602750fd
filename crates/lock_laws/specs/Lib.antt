pub mod Rounds
pub mod Signals
pub mod Words
