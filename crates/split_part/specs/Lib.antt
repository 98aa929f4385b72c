pub mod Columns
pub mod Ends
pub mod Openings
pub mod Splits
pub mod Closings
pub mod inside
