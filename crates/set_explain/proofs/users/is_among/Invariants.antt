use Rattle.std.proofs.Common.{◌≡◌, drop, map}
use Rattle.rt_base.specs.declared.SemNo.{SemNo}
use Rattle.rt_task.specs.RuleWords.{has}
use Rattle.set_explain.proofs.users.is_among.Given as goal

abbrev pub invariant-loop-s : goal.invariant-loop-s
invariant-loop-s l = has l.number (map (λ (s : SemNo). s.0) (drop l.s-index l.uses)) ≡ has l.number (map (λ (s : SemNo). s.0) l.uses)
