use Rattle.std.proofs.Common.{◌≡◌, map}
use Rattle.std.specs.Prelude.{filter}
use Rattle.rt_base.specs.declared.SemNo.{SemNo}
use Rattle.rt_rules.specs.Numbers.{is, numbers_from}
use Rattle.sem_table.specs.Told.{state_of}
use Rattle.rank_afresh.proofs.afresh.shown.held_of.Given as goal

-- those among the first semaphores
abbrev pub invariant-loop-i : goal.invariant-loop-i
invariant-loop-i l = map (λ (s : SemNo). s.0) l.held.items ≡ filter (λ s. is l.task.0 (state_of l.core.facts.sems.table s).holder) (numbers_from 1 l.i)
