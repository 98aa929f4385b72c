pub mod Crossing
pub mod Driving
