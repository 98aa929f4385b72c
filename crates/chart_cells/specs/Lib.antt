pub mod Cells
pub mod Charts
pub mod Kept
pub mod KeptLaws
pub mod KeptFirst
pub mod KeptFirstLaws
