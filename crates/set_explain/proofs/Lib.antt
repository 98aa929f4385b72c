pub mod BrokenLaws
pub mod CauseLaws
pub mod DraftLaws
pub mod FormLaws
pub mod PlaceLaws
pub mod SetLaws
pub mod TestLaws
