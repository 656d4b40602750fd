pub mod Had
pub mod Changes
pub mod Keeping
pub mod Histories
