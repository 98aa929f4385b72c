use Rattle.std.proofs.Common.{◌≡◌, drop}
use Rattle.rt_rules.specs.Numbers.{has}
use Rattle.rank_afresh.proofs.visits.Visits.has.Given as goal

-- it is none of the positions so far
abbrev pub invariant-loop-other : goal.invariant-loop-other
invariant-loop-other l = has l.position (drop l.other-index l.other-items) ≡ has l.position l.self.positions
