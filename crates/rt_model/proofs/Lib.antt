pub mod ReleaseLaws
pub mod TopLaws
pub mod AnswerLaws
pub mod PastLaws
pub mod Steps
