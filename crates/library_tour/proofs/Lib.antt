pub mod TourLaws
