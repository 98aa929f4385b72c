pub mod Groups
pub mod TurnsLeft
pub mod GroupSteps
pub mod StepsLeft
