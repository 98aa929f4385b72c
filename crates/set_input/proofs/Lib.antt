pub mod EndLaws
pub mod InputLaws
pub mod Promises
