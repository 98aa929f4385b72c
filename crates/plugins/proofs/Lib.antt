pub mod GlobalKeyLaws
pub mod PartitionedKeyLaws
