pub mod KeptLaws
pub mod Linking
pub mod ReadLaws
pub mod ReplyLaws
pub mod CanReadLaws
pub mod EntryLaws
