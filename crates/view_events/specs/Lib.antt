pub mod TextTracks
pub mod inside
