pub mod Edges
pub mod Keeping
pub mod Finders
pub mod Following
pub mod Unrefused
pub mod Unhalted
pub mod UpwardSteps
