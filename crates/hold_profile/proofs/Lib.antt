pub mod Lengths
pub mod LockSteps
pub mod OpenLists
pub mod PairSteps
pub mod Results
pub mod Rows
pub mod Saying
pub mod Sums
