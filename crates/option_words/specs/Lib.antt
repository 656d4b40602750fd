pub mod Forms
pub mod Rule
pub mod Words
