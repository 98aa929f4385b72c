pub mod AtMoments
pub mod Stretches
pub mod Reached
