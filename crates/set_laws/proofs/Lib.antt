pub mod CompactLaws
pub mod BackLaws
pub mod WholeLaws
pub mod CanonicalLaws
pub mod Passing
pub mod PositionLaws
pub mod KnownLaws
pub mod StoredLaws
