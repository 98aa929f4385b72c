use Rattle.rt_base.specs.TaskNos.{numbers_of_tasks}
use Rattle.sem_laws.specs.KeptKeys.{key_at}
use Rattle.prio_inherit.specs.Waits.{base_of, next_of}
use Rattle.prio_inherit.specs.Local.{IsTop}
use Rattle.prio_inherit.proofs.keys.top_key.Given as goal

-- the highest so far
abbrev pub invariant-loop-u : goal.invariant-loop-u
invariant-loop-u l = IsTop l.u (next_of (numbers_of_tasks l.nexts)) (key_at l.keys) (base_of l.bases l.task.0) l.task.0 l.best
