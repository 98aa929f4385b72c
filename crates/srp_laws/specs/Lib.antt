pub mod Sections
pub mod StackLaws
pub mod worked
