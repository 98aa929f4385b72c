use Rattle.std.proofs.Common.{◌≡◌, drop, length}
use Rattle.rt_base.specs.TaskNos.{numbers}
use Rattle.group_jobs.specs.Timers.{renewed}
use Rattle.group_core.specs.Reads.{timer_in}
use Rattle.rank_afresh.proofs.facts.Facts.keep_moments.Given as goal

-- keeping the moments of the tasks that are left leads to what keeping all leads to
abbrev pub invariant-loop-i : goal.invariant-loop-i
invariant-loop-i l = record {
  core : l.self-inside.core ≡ l.initial.self-inside.core;
  looked : l.self-inside.looked ≡ l.initial.self-inside.looked;
  clusters : l.self-inside.clusters ≡ l.initial.self-inside.clusters;
  visits : l.self-inside.visits ≡ l.initial.self-inside.visits;
  count : length l.self-inside.moments ≡ length l.initial.self-inside.moments;
  leads : renewed (timer_in l.parts l.initial.self-inside.core.facts.kept) (numbers (drop l.i l.initial.self-inside.looked.items)) l.self-inside.moments
      ≡ renewed (timer_in l.parts l.initial.self-inside.core.facts.kept) (numbers l.initial.self-inside.looked.items) l.initial.self-inside.moments;
}
