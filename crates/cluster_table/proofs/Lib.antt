pub mod FirstTasks
pub mod RowLaws
pub mod Stays
pub mod Stable
pub mod Listed
pub mod Seen
pub mod Marking
pub mod PendingLaws
