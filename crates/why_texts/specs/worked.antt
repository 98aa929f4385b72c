pub mod Groups
pub mod Lines
pub mod Locks
pub mod Computed
pub mod Jobs
