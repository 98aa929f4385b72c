pub mod Ceilings
pub mod inside
