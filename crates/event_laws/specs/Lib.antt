pub mod AsRead
pub mod EventValues
pub mod GroupValues
pub mod ReadBack
