pub mod Partitions
pub mod AtTurns
pub mod PartSeats
pub mod Steps
