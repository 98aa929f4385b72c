-- Lists of the code as lists of tasks and semaphores.
use Rattle.std.specs.Prelude.{ℕ, ◌<◌, List, map}
use Rattle.rt_rules.specs.Pcp.{TaskSem}
use Rattle.pcp_sem.specs.declared.pairs.Pair.{Pair}

abbrev pub pair : Pair → TaskSem
pair p = record { task = p.task.0; sem = p.sem }

abbrev pub pairs : List Pair → List TaskSem
pairs ps = map pair ps

-- the task and the semaphore are within the two limits
pub record IsKnown (room sems : ℕ) (p : Pair) : Type 0 where
  pub task : p.task.0 < room
  pub sem : p.sem < sems
