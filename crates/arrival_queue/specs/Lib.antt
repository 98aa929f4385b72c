pub mod Waiting
pub mod Chains
