pub mod JobMarks
pub mod Recordings
