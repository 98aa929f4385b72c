pub mod Run
pub mod RunAnswers
pub mod Split
pub mod SplitAnswers
