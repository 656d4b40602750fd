pub mod Halts
pub mod Ends
