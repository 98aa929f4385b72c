pub mod Times
pub mod JobTimes
pub mod inside
