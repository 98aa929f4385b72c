pub mod Numbered
pub mod CpuGroups
pub mod GivenSteps
pub mod ScriptLaws
pub mod OneStep
pub mod TurnLaws
mod CursorLaws
pub mod TurnRoom
pub mod GroupLaws
pub mod OneGroup
