pub mod OrderLaws
pub mod Sound
pub mod KeptOrder
pub mod Blockers
pub mod Acts
pub mod Listing
