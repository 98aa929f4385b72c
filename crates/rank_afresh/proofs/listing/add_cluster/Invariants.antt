use Rattle.std.proofs.Common.{◌≡◌, ◌+◌, ◌-◌, ◌≤◌, ◌++◌, length, vec_capacity, vec_len}
use Rattle.std.specs.Prelude.{filter}
use Rattle.rt_base.specs.TaskNos.{numbers}
use Rattle.rt_rules.specs.Numbers.{numbers_from}
use Rattle.rank_afresh.proofs.SetLists.{at_home}
use Rattle.rank_afresh.proofs.listing.add_cluster.Given as goal

-- the tasks so far, and those among the ones that are left
abbrev pub invariant-loop-i : goal.invariant-loop-i
invariant-loop-i l = record {
  leads : numbers l.list.items ++ filter (at_home l.parts l.home.0) (numbers_from (l.i + 1) (length l.task-items - l.i)) ≡ numbers l.initial.list.items ++ filter (at_home l.parts l.home.0) (numbers_from 1 (length l.task-items));
  few : vec_len l.list ≤ vec_len l.initial.list + l.i;
  room : vec_capacity l.list ≡ vec_capacity l.initial.list;
}
