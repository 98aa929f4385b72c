pub mod SrpUsers
pub mod SrpState
pub mod SrpOnce
