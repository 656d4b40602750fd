pub mod Sets
pub mod Rows
pub mod Closed
pub mod Checked
pub mod Columns
