use Rattle.std.proofs.Common.{◌≡◌, drop, map}
use Rattle.rt_base.specs.declared.SemNo.{SemNo}
use Rattle.rt_rules.specs.Numbers.{has}
use Rattle.group_sems.proofs.refusals.has_sem.Given as goal

-- the rest answers as the whole
abbrev pub invariant-loop-s : goal.invariant-loop-s
invariant-loop-s l = has l.sem.0 (map (λ (n : SemNo). n.0) (drop l.s-index l.sems)) ≡ has l.sem.0 (map (λ (n : SemNo). n.0) l.sems)
