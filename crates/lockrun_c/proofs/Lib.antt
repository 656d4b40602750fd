pub mod AsBox
pub mod Closed
pub mod Named
pub mod Opened
pub mod Refusals
pub mod There
pub mod Told
