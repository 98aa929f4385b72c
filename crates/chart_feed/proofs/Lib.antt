pub mod Ticks
pub mod Entries
pub mod MarkLaws
pub mod Edges
pub mod Moves
pub mod Noted
pub mod Finishing
pub mod Stepping
pub mod Clocked
pub mod Paneled
pub mod Shown
pub mod Feeding
pub mod GoesOn
pub mod WindowOver
mod RunMarks
