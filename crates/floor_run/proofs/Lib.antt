pub mod Names
pub mod Waiting
pub mod Operating
pub mod Cutting
pub mod Running
pub mod Ordered
pub mod Histories
pub mod Crossing
