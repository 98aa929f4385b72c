pub mod Held
pub mod Faults
pub mod Reading
pub mod Memory
pub mod StatusCode
pub mod Stops
pub mod Ends
