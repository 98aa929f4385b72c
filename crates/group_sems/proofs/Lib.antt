pub mod TellingLaws
mod RefusalLaws
pub mod Putting
pub mod Bases
pub mod KeptKeys
pub mod Opening
pub mod Quiet
pub mod Owners
pub mod Retelling
pub mod Boosting
pub mod Locks
pub mod Unlocks
pub mod Leaving
pub mod Reading
pub mod Outside
pub mod ReadRefusals
pub mod Fitting
