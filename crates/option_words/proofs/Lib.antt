mod Mistakes
mod Rules
mod Rows
mod Walks
mod Steps
mod Whole
pub mod Numbers
