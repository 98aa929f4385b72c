use Rattle.std.proofs.Common.{◌≡◌, ◌+◌, ◌-◌, ◌≤◌, ◌++◌, length, vec_capacity, vec_len}
use Rattle.std.specs.Prelude.{filter}
use Rattle.rt_base.specs.TaskNos.{numbers}
use Rattle.rt_rules.specs.Numbers.{numbers_from}
use Rattle.rank_afresh.proofs.SetLists.{is_of}
use Rattle.rank_afresh.proofs.listing.list_group.Given as goal

-- the tasks so far, and those among the ones that are left
abbrev pub invariant-loop-i : goal.invariant-loop-i
invariant-loop-i l = record {
  leads : numbers l.list.items ++ filter (is_of l.parts l.group.0) (numbers_from (l.i + 1) (length l.task-items - l.i)) ≡ filter (is_of l.parts l.group.0) (numbers_from 1 (length l.task-items));
  few : vec_len l.list ≤ l.i;
  room : vec_capacity l.list ≡ vec_capacity l.initial.list;
}
