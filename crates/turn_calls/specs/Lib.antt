pub mod Openings
pub mod Tellings
pub mod Texts
