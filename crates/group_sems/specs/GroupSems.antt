-- The semaphores of a group and the keys of its tasks, as contracts see them.
use Rattle.std.specs.Prelude.{Bool, List}
use Rattle.sem_table.specs.SemTable.{SemTable}
use Rattle.prio_inherit.specs.Waits.{Waits}
use Rattle.mpcp_ceilings.specs.Ceilings.{CeilingTable}

-- the semaphores; of each task its base key, whom it waits for and its boost; the ceilings under MPCP; and which tasks are under way, by
-- number less 1
pub record GroupSems : Type 0 where
  pub table : SemTable
  pub waits : Waits
  pub ceilings : CeilingTable
  pub ways : List Bool
