pub mod States
pub mod inside
