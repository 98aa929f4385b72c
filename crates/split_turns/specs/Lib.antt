pub mod SplitTurns
pub mod Histories
