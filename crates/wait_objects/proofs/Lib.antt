pub mod Few
pub mod Best
pub mod Joined
pub mod Taken
pub mod Moved
pub mod WellFormed
pub mod Turnstiles
pub mod Entries
