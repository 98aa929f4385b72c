pub mod Commas
pub mod Openings
