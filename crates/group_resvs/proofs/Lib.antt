mod ChangedLists
pub mod KeptLaws
mod NobodyServed
mod TouchedLaws
