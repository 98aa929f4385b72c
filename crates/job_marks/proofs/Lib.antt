pub mod Missed
pub mod Ends
pub mod Updates
pub mod Feeding
pub mod Marked
