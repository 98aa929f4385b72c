pub mod Ring
pub mod Waiting
pub mod Queue
