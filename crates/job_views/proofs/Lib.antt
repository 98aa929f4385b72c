pub mod Updates
pub mod Feeding
pub mod SeenEnds
pub mod Lines
