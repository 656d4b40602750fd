pub mod Runs
pub mod Turns
pub mod Lines
pub mod Bars
pub mod Spans
pub mod Steps
pub mod Charts
