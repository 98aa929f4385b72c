pub mod GroupPasts
pub mod Longest
pub mod Drawn
