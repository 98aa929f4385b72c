pub mod Numbers
pub mod ViewLaws
