use Rattle.std.proofs.Common.{◌≡◌, take}
use Rattle.std.specs.Prelude.{filter}
use Rattle.rt_task.specs.declared.Step.{Step}
use Rattle.split_laws.specs.Counts.{names_sem}
use Rattle.split_turns.proofs.quotas.steps_at.Given as goal

abbrev pub invariant-loop-step : goal.invariant-loop-step
invariant-loop-step l = l.found.items ≡ filter (λ (x : Step). names_sem l.sem.0 x.act) (take l.step-index l.steps)
