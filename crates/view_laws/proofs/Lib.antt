pub mod Sums
pub mod Shown
pub mod Totals
pub mod Legal
pub mod Moves
pub mod SetMoves
pub mod Sets
