pub mod Walking
pub mod Settling
mod Raising
pub mod Counting
pub mod Tables
