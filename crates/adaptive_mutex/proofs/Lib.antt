pub mod Covered
pub mod Tried
pub mod Parts
