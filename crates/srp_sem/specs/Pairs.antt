-- Lists of tasks and the semaphores that they hold.
use Rattle.std.specs.Prelude.{ℕ, List, map}
use Rattle.rt_rules.specs.Pcp.{TaskSem}
-- `has_pair t s ps`: whether ps has the pair of t and s; `tasks_of ps`: the tasks of the pairs
pub use Rattle.rt_rules.proofs.PairLaws.{has_pair, tasks_of_pairs as tasks_of}

-- the semaphores of the pairs
abbrev pub sems_of : List TaskSem → List ℕ
sems_of ps = map (λ (p : TaskSem). p.sem) ps
