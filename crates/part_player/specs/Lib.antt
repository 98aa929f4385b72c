pub mod Players
pub mod Kept
pub mod inside
