pub mod Acted
pub mod Plays
pub mod Finding
