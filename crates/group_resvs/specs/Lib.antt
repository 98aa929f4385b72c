pub mod GroupResvs
pub mod Kept
pub mod Laws
pub mod Touched
