pub mod Feeding
pub mod Laws
pub mod Open
pub mod Bounds
pub mod Once
