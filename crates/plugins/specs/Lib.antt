pub mod DeadlineKeys
pub mod PriorityKeys
pub mod ReservationKeys
pub mod GlobalBoosts
pub mod PartitionedBoosts
