pub mod Copies
pub mod Faults
pub mod Memory
pub mod StdEnds
pub mod Whole
