pub mod Lists
pub mod PositionLaws
pub mod Limits
pub mod UserLaws
pub mod FedRequests
pub mod BoundLaws
