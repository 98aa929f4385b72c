pub mod NamesSeen
pub mod Spreads
pub mod Tables
