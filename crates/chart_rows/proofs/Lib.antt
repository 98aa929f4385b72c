pub mod RowLaws
pub mod Changed
pub mod Looks
pub mod RowParts
pub mod Foretelling
pub mod Waits
pub mod Ranks
pub mod UpTo
pub mod ReadyTasks
pub mod ReadyStates
pub mod AwayLaws
pub mod OneChanged
mod OneRow
mod Finishing
pub mod TickLaws
mod RunLaws
