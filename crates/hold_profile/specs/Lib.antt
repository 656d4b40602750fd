pub mod AtLocks
pub mod Counting
pub mod Histories
pub mod ProfileText
pub mod Profiles
pub mod Sections
