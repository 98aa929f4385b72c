pub mod TourSet
pub mod TourGroup
