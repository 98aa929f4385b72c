pub mod Turn
pub mod Turns
pub mod inside
