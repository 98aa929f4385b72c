use Rattle.std.proofs.Common.{◌≡◌, drop}
use Rattle.rt_rules.specs.Srp.{srp_passes}
use Rattle.srp_sem.specs.Listed.{pairs}
use Rattle.srp_sem.specs.SrpKept.{ceiling_at}
use Rattle.srp_sem.proofs.pairs.does_pass.Given as goal

-- the rest answers as the whole
abbrev pub invariant-loop-p : goal.invariant-loop-p
invariant-loop-p l = srp_passes (ceiling_at l.ceilings) (pairs (drop l.p-index l.held)) l.task.0 l.rel_deadline ≡ srp_passes (ceiling_at l.ceilings) (pairs l.held) l.task.0 l.rel_deadline
