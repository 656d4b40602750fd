pub mod Json
pub mod Markup
pub mod Pieces
pub mod Reader
pub mod Values
