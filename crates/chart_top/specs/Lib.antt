pub mod Calls
pub mod Heading
pub mod Pictures
