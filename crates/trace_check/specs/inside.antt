pub mod GroupLines
pub mod Judging
pub mod Following
pub mod GroupLinks
pub mod Progress
pub mod RequestLines
