pub mod ActLaws
pub mod ValidBodies
pub mod TurnLaws
pub mod Rows
