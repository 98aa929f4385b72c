pub mod Sim
pub mod Check
pub mod SimAnswers
pub mod CheckAnswers
pub mod Upgrade
pub mod UpgradeAnswers
pub mod Load
pub mod LoadAnswers
