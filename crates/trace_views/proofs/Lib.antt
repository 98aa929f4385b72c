pub mod Spans
pub mod Sums
pub mod JobSums
pub mod RowSums
pub mod Lateness
