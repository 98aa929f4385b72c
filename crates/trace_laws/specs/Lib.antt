pub mod ValidTexts
pub mod TraceLaws
pub mod Upgrades
pub mod PlayedGroups
