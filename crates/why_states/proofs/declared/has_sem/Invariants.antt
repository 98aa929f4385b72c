use Rattle.std.proofs.Common.{◌≡◌, drop}
use Rattle.rt_rules.specs.Numbers.{has}
use Rattle.why_lines.specs.SemNos.{sem_numbers}
use Rattle.why_states.proofs.declared.has_sem.Given as goal

-- the rest answers as the whole
abbrev pub invariant-loop-s : goal.invariant-loop-s
invariant-loop-s l = has l.sem.0 (sem_numbers (drop l.s-index l.sems)) ≡ has l.sem.0 (sem_numbers l.sems)
