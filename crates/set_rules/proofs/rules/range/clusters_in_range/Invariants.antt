use Rattle.std.proofs.Common.{◌≡◌, [], take, drop}
use Rattle.rt_task.specs.Refusals.{first_failing}
use Rattle.rt_task.specs.RangeRules as rules
use Rattle.set_rules.proofs.rules.range.clusters_in_range.Given as goal

-- the first failing of what is left is that of all; the greatest group so far
abbrev pub invariant-loop-i : goal.invariant-loop-i
invariant-loop-i l = record {
  rest : first_failing (rules.cluster_range l.d) (take l.i l.d.clusters) (drop l.i l.d.clusters) ≡ first_failing (rules.cluster_range l.d) [] l.d.clusters;
  top : l.top ≡ rules.groups_top (take l.i l.d.clusters);
}
