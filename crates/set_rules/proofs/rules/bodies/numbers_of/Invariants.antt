use Rattle.std.proofs.Common.{◌≡◌, ℕ, map, take}
use Rattle.rt_base.specs.declared.SemNo.{SemNo}
use Rattle.set_rules.specs.inside.NamesSeen.{has_number}
use Rattle.rt_task.specs.RuleWords.{has}
use Rattle.set_rules.proofs.rules.bodies.numbers_of.Given as goal

abbrev pub invariant-loop-s : goal.invariant-loop-s
invariant-loop-s l = (n : ℕ) → has_number l.numbers n ≡ has n (map (λ (s : SemNo). s.0) (take l.s-index l.uses))
