pub mod Keys
pub mod Unserved
