pub mod Tracks
pub mod Rows
