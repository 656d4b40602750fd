pub mod Tracks
pub mod Data
pub mod Page
