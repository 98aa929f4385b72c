pub mod Arena
pub mod Row
pub mod Heap
pub mod Places
pub mod Ready
