pub mod Books
pub mod Endings
pub mod Outcomes
pub mod Tickets
