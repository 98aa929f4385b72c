pub mod Reading
pub mod UpdateLaws
pub mod Updating
pub mod Bounding
pub mod Settling
pub mod Running
pub mod Interrupting
pub mod Following
pub mod ClockMoves
pub mod ActMoves
pub mod DueAgain
pub mod DueInTurn
pub mod GroupInTurn
pub mod ClusterInTurn
pub mod Opening
pub mod Stepping
pub mod LinksKept
mod Looked
mod Requeueing
