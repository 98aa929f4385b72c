pub mod Next
pub mod Followed
pub mod Courses
