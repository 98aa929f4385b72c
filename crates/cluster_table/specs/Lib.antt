pub mod Clusters
pub mod Placed
pub mod Table
pub mod Marks
pub mod Pending
