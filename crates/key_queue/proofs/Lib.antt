pub mod Links
pub mod RingLaws
pub mod Copies
pub mod QueueLaws
