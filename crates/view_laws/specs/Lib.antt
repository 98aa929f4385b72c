pub mod Totals
pub mod Sets
pub mod Moves
