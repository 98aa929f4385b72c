pub mod Sharing
pub mod Tables
pub mod Computed
pub mod Columns
