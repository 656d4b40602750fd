pub mod Reading
pub mod Statements
pub mod OpenThreads
pub mod Readers
pub mod Meanings
pub mod Generator
