use Rattle.std.proofs.Common.{◌≡◌, ◌+◌, ◌≤◌, ◌++◌, take, vec_capacity, vec_len}
use Rattle.rt_base.specs.TaskNos.{numbers}
use Rattle.block_counts.specs.SeenWords.{waiters_of}
use Rattle.group_core.specs.inside.Blocked.{waiters_now}
use Rattle.group_core.proofs.waiting_list.tell.Given as goal

-- the tasks so far were added
abbrev pub invariant-loop-task : goal.invariant-loop-task
invariant-loop-task l =
    (waiters_of l.into.items ≡ waiters_of l.initial.into.items ++ waiters_now l.parts l.jobs.kept (numbers (take l.task-index l.tasks)))
    × (vec_len l.into ≡ vec_len l.initial.into + l.task-index)
    × (vec_capacity l.initial.into ≤ vec_capacity l.into)
