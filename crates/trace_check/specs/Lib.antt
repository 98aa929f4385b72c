pub mod Verdicts
pub mod LinesAlike
pub mod Counts
pub mod Groups
pub mod Keeping
pub mod inside
