pub mod Represents
pub mod Held
pub mod Enters
pub mod Opens
pub mod Sleeps
pub mod Aborts
pub mod Marked
pub mod Hops
