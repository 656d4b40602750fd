pub mod Finding
pub mod Coming
pub mod Aborted
pub mod Woken
pub mod Ended
pub mod Whole
pub mod Counted
