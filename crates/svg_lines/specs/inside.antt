pub mod Hollow
pub mod Paths
