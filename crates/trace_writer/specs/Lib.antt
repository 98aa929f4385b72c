pub mod Writing
pub mod Replays
pub mod Summaries
pub mod Stretches
