pub mod Words
pub mod Texts
pub mod Ends
pub mod View
pub mod ViewAnswers
pub mod inside
