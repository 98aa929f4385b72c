pub mod Refreshed
pub mod ReadySet
pub mod Queue
pub mod Exchanges
pub mod RankedTasks
