pub mod Runs
pub mod Workers
pub mod Progress
pub mod Sleeps
