pub mod Words
pub mod Lines
pub mod Grammar
pub mod EntryRest
pub mod Known
pub mod FirstLine
