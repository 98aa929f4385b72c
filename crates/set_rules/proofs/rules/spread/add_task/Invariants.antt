use Rattle.std.proofs.Common.{◌≡◌, ℕ, ◌+◌, ◌<◌, cond, length, get_or, map, take}
use Rattle.rt_base.specs.declared.SemNo.{SemNo}
use Rattle.set_rules.specs.declared.rules.spread.Spread.{Spread}
use Rattle.rt_task.specs.RuleWords.{has}
use Rattle.set_rules.specs.inside.Spreads.{added}
use Rattle.set_rules.proofs.rules.spread.add_task.Given as goal

-- the semaphores named so far have the task
abbrev pub invariant-loop-s : goal.invariant-loop-s
invariant-loop-s l = (i : ℕ) (e : Spread) → i < length l.spreads → get_or l.spreads i e ≡ cond (has (i + 1) (map (λ (s : SemNo). s.0) (take l.s-index l.uses))) (added l.d (get_or l.initial.spreads i e) l.cluster) (get_or l.initial.spreads i e)
