pub mod Pictures
pub mod Computed
pub mod Shapes
pub mod Budgets
