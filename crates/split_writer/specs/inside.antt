pub mod Replays
pub mod Texts
