pub mod Sharing
pub mod Groups
pub mod Nested
pub mod Computed
pub mod Rulers
pub mod Jobs
