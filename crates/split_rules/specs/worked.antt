pub mod Samples
pub mod Refusals
pub mod Splits
pub mod Computed
pub mod Grants
