mod Items
mod Appends
pub mod Fronts
