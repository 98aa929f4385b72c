use Rattle.std.proofs.Common.{◌≡◌, ℕ, ◌<◌, length}
use Rattle.std.specs.Prelude.{None, Some, IsSome, slice_index_or}
use Rattle.part_tests.proofs.inheritance.keys_beside_walks_over_all_tasks.Given as goal

-- each base key is told, and each task waits for one of a higher number
abbrev pub invariant-loop : goal.invariant-loop
invariant-loop g l = record {
  room : length l.table.bases ≡ 12;
  told : (t : ℕ) → t < 12 → IsSome (slice_index_or l.table.bases t None);
  rising : (t v : ℕ) → slice_index_or l.table.nexts t None ≡ Some v → t < v;
}
