use Rattle.std.proofs.Common.{◌≡◌, ◌+◌, ◌≤◌, ◌++◌, drop, length, vec_capacity, vec_len}
use Rattle.rt_base.specs.TaskNos.{numbers}
use Rattle.rt_rules.specs.Numbers.{rest}
use Rattle.sem_laws.proofs.listing.list_behind_first.Given as goal

-- what was added is followed by what is still to add
abbrev pub invariant-loop-i : goal.invariant-loop-i
invariant-loop-i l = record {
  joined : numbers l.into.items ++ numbers (drop l.i l.line.items) ≡ numbers l.initial.into.items ++ rest (numbers l.line.items);
  len : vec_len l.into + length (numbers (drop l.i l.line.items)) ≤ vec_capacity l.into;
  capacity : vec_capacity l.into ≡ vec_capacity l.initial.into;
}
