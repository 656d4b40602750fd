mod Numbers
mod Readings
mod Strings
pub mod Written
