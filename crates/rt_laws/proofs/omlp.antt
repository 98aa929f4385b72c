pub mod OmlpState
pub mod OmlpCount
pub mod OmlpParts
