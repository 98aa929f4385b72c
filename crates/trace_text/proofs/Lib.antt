pub mod CpuLaws
pub mod ReplayLaws
pub mod StillLinks
pub mod LineLaws
pub mod ShownLaws
pub mod GroupLaws
pub mod BlockLines
pub mod PartLinks
