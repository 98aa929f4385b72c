pub mod Marked
pub mod Timed
pub mod TextTracks
