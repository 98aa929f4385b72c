pub mod Distances
pub mod Positions
pub mod Courses
