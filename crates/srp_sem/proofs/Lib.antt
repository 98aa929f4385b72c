pub mod Acts
