pub mod CameLaws
pub mod Replays
pub mod Stepping
pub mod GroupParts
pub mod GroupSequence
pub mod SummaryLaws
pub mod BusText
pub mod StretchLaws
