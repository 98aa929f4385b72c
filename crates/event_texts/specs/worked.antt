pub mod Computed
pub mod Events
