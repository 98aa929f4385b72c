pub mod RefusedActs
pub mod inside
