-- Words of the waiting lists and of the semaphores of a group, for the crates above that take them from here.
pub use Rattle.group_core.specs.Listing.{AreListed, AreWaitersAt, CanList, GroupAt}
pub use Rattle.group_core.specs.WaitingList.{WaitingList}
pub use Rattle.group_sems.specs.Kept.{KeepsGroupSems}
