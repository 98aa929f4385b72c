pub mod TaskLaws
pub mod LoadDraft
pub mod TaskRules
pub mod LoadRules
