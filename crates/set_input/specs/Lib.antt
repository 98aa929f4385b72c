pub mod Ends
pub mod LinksOf
pub mod Throughout
pub mod Inputs
pub mod Answers
pub mod Stopped
pub mod OwnWords
