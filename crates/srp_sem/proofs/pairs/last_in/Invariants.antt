use Rattle.std.proofs.Common.{◌≡◌, drop}
use Rattle.rt_rules.specs.Numbers.{has}
use Rattle.rt_rules.specs.Srp.{newest_held}
use Rattle.srp_sem.specs.Listed.{pairs}
use Rattle.srp_sem.specs.Pairs.{tasks_of}
use Rattle.srp_sem.proofs.pairs.last_in.Given as goal

-- the rest answers as the whole
abbrev pub invariant-loop-p : goal.invariant-loop-p
invariant-loop-p l = record {
  last : newest_held (pairs (drop l.p-index l.held)) l.task.0 ≡ newest_held (pairs l.held) l.task.0;
  nothing : has l.task.0 (tasks_of (pairs (drop l.p-index l.held))) ≡ has l.task.0 (tasks_of (pairs l.held));
}
