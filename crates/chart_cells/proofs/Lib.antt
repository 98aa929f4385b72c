pub mod KeptCells
pub mod FirstUnits
pub mod Sameness
