pub mod LineTexts
pub mod ListTexts
pub mod Playing
pub mod Partitions
pub mod Moments
