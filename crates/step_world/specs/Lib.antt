pub mod Runs
pub mod Worlds
pub mod Outcomes
pub mod Courses
pub mod Sets
