-- Lemmas on waiting lists and on the semaphores of a group, for the crates above that take them from here.
pub use Rattle.group_core.proofs.WaiterLimits.{at_home, limits-of}
pub use Rattle.group_core.proofs.Rows.{item-has}
pub use Rattle.group_sems.proofs.ReadRefusals.{holder_is_read}
