pub mod Tallies
pub mod RequestPositions
pub mod Deeds
pub mod Workers
pub mod Kept
pub mod Rows
pub mod Sums
pub mod JobLaws
