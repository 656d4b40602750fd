pub mod Chance
pub mod Policies
pub mod Schedules
pub mod Choosing
