pub mod MpcpState
pub mod HolderLinked
pub mod HighestGranted
pub mod BoostedHolders
pub mod LowerSections
