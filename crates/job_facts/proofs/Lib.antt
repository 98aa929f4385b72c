pub mod Steps
pub mod Workers
pub mod Jobs
pub mod Few
pub mod Rows
pub mod RowSums
pub mod Periods
