pub mod Waits
pub mod Local
pub mod Counts
