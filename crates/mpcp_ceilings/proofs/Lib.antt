pub mod UserLaws
pub mod SmallestLaws
pub mod NotedLaws
pub mod Known
