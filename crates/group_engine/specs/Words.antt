-- Words of the waiting lists, for the crates above that take them from here.
pub use Rattle.group_core.specs.Words.{AreListed, AreWaitersAt, WaitingList}
