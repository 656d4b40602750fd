pub mod Drawn
pub mod Lanes
pub mod Pages
pub mod Shapes
