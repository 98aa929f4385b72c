pub mod RunEnds
pub mod inside
