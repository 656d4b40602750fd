pub mod Outcome
pub mod Ordered
