pub mod FmlpState
pub mod FmlpCount
pub mod InOrder
