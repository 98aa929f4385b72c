pub mod Tracks
pub mod TracksOf
pub mod TrackEvents
pub mod TrackLaws
pub mod Shown
pub mod WholeText
pub mod inside
