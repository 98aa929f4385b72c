pub mod Extended
pub mod TickStrips
pub mod Spanned
pub mod Lane
pub mod Begun
pub mod Still
pub mod Feeds
pub mod inside
