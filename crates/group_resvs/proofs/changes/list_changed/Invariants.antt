use Rattle.std.proofs.Common.{◌≡◌, ◌+◌, ◌≤◌, take, vec_capacity, vec_len}
use Rattle.rt_base.specs.TaskNos.{numbers, numbers_of_tasks}
use Rattle.group_resvs.specs.GroupResvs.{all_changed}
use Rattle.group_resvs.proofs.changes.list_changed.Given as goal

-- those of the reservations so far are listed, two at most of each
abbrev pub invariant-loop-i : goal.invariant-loop-i
invariant-loop-i l =
    (numbers l.into.items ≡ all_changed (take l.i (numbers_of_tasks l.before)) (take l.i (numbers_of_tasks l.now)))
    × (vec_len l.into ≤ l.i + l.i)
    × (vec_capacity l.fn.into ≤ vec_capacity l.into)
