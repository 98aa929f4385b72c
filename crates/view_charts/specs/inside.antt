pub mod Drawings
