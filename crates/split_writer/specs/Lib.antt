pub mod PartPlays
pub mod inside
