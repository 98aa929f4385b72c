-- Lists of the code as lists of tasks and semaphores.
use Rattle.std.specs.Prelude.{List, map}
use Rattle.rt_rules.specs.Pcp.{TaskSem}
use Rattle.srp_sem.specs.declared.pairs.Pair.{Pair}

abbrev pub pair : Pair → TaskSem
pair p = record { task = p.task.0; sem = p.sem }

abbrev pub pairs : List Pair → List TaskSem
pairs ps = map pair ps
