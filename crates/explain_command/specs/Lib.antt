pub mod Lines
pub mod Texts
pub mod Explaining
pub mod ExplainAnswers
pub mod Laws
