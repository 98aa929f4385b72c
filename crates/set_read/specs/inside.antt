pub mod Tokens
pub mod Stepwise
pub mod Elements
pub mod Few
pub mod Texts
