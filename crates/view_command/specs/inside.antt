pub mod Viewing
pub mod Windows
