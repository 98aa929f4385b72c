use Rattle.std.proofs.Common.{◌≡◌, drop}
use Rattle.rt_rules.specs.Numbers.{first, has}
use Rattle.rt_rules.specs.Pcp.{of_sem}
use Rattle.srp_sem.specs.Listed.{pairs}
use Rattle.srp_sem.specs.Pairs.{sems_of}
use Rattle.srp_sem.proofs.pairs.holder_in.Given as goal

-- the rest answers as the whole
abbrev pub invariant-loop-p : goal.invariant-loop-p
invariant-loop-p l = record {
  holder : first (of_sem l.sem (pairs (drop l.p-index l.held))) ≡ first (of_sem l.sem (pairs l.held));
  nobody : has l.sem (sems_of (pairs (drop l.p-index l.held))) ≡ has l.sem (sems_of (pairs l.held));
}
