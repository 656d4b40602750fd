pub mod Represents
pub mod Threads
pub mod Noted
pub mod Steps
pub mod Runs
