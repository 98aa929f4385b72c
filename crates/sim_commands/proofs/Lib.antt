pub mod CheckLaws
pub mod SimAnswerLaws
pub mod CheckAnswerLaws
pub mod UpgradeLaws
pub mod UpgradeAnswerLaws
pub mod LoadLaws
