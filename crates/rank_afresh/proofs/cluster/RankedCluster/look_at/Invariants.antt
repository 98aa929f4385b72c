use Rattle.std.proofs.Common.{◌≡◌, drop}
use Rattle.rt_base.specs.TaskNos.{numbers}
use Rattle.rank_afresh.specs.Clusters.{CanPlace, looked_at}
use Rattle.rank_afresh.proofs.cluster.RankedCluster.look_at.Given as goal

-- looking at the tasks that are left leads to what looking at all leads to
abbrev pub invariant-loop-task : goal.invariant-loop-task
invariant-loop-task l = record {
  leads : looked_at l.parts l.core.facts (numbers (drop l.task-index l.tasks)) l.self ≡ looked_at l.parts l.core.facts (numbers l.tasks) l.initial.self;
  place : CanPlace l.parts l.core.facts.kept l.self;
}
