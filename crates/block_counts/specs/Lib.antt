pub mod SeenWords
pub mod Positions
pub mod Bounding
pub mod GroupRequests
pub mod inside
