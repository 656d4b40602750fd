pub mod Seen
pub mod Changes
pub mod Loans
