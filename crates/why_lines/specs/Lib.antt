pub mod GroupSets
pub mod SemNos
pub mod Ceilings
pub mod JobsShown
