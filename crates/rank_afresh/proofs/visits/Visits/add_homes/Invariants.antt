use Rattle.std.proofs.Common.{◌≡◌, ℕ, true, take}
use Rattle.rt_base.specs.TaskNos.{numbers}
use Rattle.rt_rules.specs.Numbers.{has}
use Rattle.rank_afresh.specs.Visits.{HasMore, IsVisited}
use Rattle.rank_afresh.proofs.visits.Visits.add_homes.Given as goal

-- the clusters of the tasks so far are added
abbrev pub invariant-loop-task : goal.invariant-loop-task
invariant-loop-task l = record {
  more : HasMore l.initial.self l.self;
  homes : (t : ℕ) → has t (numbers (take l.task-index l.tasks)) ≡ true → IsVisited l.self l.initial.self.task_homes t;
}
