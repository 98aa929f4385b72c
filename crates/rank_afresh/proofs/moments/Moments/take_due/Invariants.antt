use Rattle.std.proofs.Common.{◌≡◌, ◌+◌, ◌≤◌, vec_capacity, vec_len}
use Rattle.rank_afresh.proofs.Due.{AreTaken}
use Rattle.rank_afresh.proofs.moments.Moments.take_due.Given as goal

-- the tasks before number i were gone through
abbrev pub invariant-loop-i : goal.invariant-loop-i
invariant-loop-i l = record {
  so_far : AreTaken l.clock l.initial.self-inside.ticks.items l.i l.due.items l.self-inside.ticks.items l.next;
  few : vec_len l.due + 1 ≤ l.i;
  room : vec_capacity l.due ≡ vec_capacity l.fn.due;
}
