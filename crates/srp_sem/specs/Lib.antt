pub mod Pairs
pub mod SrpKept
pub mod Listed
pub mod IsSrp
