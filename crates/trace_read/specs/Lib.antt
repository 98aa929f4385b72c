pub mod Lines
pub mod Reads
pub mod Reading
pub mod Seen
pub mod Movers
