pub mod Samples
pub mod Plays
pub mod Computed
pub mod EdgeCases
