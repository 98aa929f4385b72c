pub mod Fields
pub mod JobText
pub mod TaskText
pub mod worked
