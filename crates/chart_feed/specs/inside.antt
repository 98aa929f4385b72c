pub mod Counts
pub mod Marked
pub mod Panels
pub mod Stands
