pub mod PlacedAgain
pub mod LinkedTasks
pub mod Links
