pub mod Words
pub mod Values
pub mod Canonical
pub mod inside
