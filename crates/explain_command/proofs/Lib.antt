pub mod LineLaws
pub mod TraceLaws
pub mod AnswerLaws
pub mod TraceFound
pub mod AgreeLaws
