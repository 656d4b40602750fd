pub mod Loans
pub mod Records
pub mod Inside
