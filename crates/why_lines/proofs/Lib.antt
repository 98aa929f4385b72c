pub mod Writing
pub mod Numbered
