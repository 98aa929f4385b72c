use Rattle.std.proofs.Common.{◌≡◌, ℕ, ◌<◌, length, replicate}
use Rattle.std.specs.Prelude.{None, IsSome, slice_index_or}
use Rattle.part_tests.proofs.inheritance.begin.Given as goal

-- nobody waits, and the base keys so far are told
abbrev pub invariant-loop-t : goal.invariant-loop-t
invariant-loop-t l = record {
  room : length l.table.bases ≡ 12;
  told : (t : ℕ) → t < l.t → IsSome (slice_index_or l.table.bases t None);
  free : l.table.nexts ≡ replicate 12 None;
}
