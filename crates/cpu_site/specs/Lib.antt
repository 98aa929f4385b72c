pub mod StepChains
pub mod Cpus
pub mod Played
pub mod Playing
pub mod Raises
pub mod Seats
pub mod Turning
pub mod worked
