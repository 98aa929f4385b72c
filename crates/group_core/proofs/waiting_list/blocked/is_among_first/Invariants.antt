use Rattle.std.proofs.Common.{◌≡◌, ◌≤◌, count_by, take}
use Rattle.group_core.specs.inside.Blocked.{is_above}
use Rattle.group_core.proofs.waiting_list.blocked.is_among_first.Given as goal

-- those among the tasks so far were counted
abbrev pub invariant-loop-other : goal.invariant-loop-other
invariant-loop-other l =
    (l.above ≡ count_by (is_above l.parts l.jobs.kept l.cluster.0 l.key) (take l.other-index l.parts.tasks)) × (l.above ≤ l.other-index)
