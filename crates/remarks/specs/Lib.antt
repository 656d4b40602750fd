pub mod Copies
pub mod Remarks
