pub mod WindowStrips
pub mod Times
pub mod Clocks
pub mod Finished
pub mod EntryClocks
pub mod Feeds
pub mod Over
pub mod inside
