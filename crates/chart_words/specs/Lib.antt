pub mod Sentences
pub mod Words
