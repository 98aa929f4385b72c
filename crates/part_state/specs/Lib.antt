pub mod States
pub mod Keeping
pub mod Reads
pub mod Reading
pub mod Uses
pub mod Replies
pub mod Entries
pub mod inside
