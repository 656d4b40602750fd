pub mod State
pub mod Steps
pub mod Facts
pub mod Best
pub mod Run
