pub mod RunLaws
pub mod RunAnswerLaws
pub mod SplitAnswerLaws
