pub mod PcpState
pub mod PcpWalks
pub mod PcpOnce
pub mod PcpGrants
pub mod PriorityCeiling
pub mod BlockedOnce
pub mod BlockedMoves
