use Rattle.std.proofs.Common.{◌≡◌, ◌≢◌, ℕ, ◌<◌, length, slice_index}
use Rattle.cluster_table.specs.Table.{HasProcessor, HasTask}
use Rattle.part_tests.proofs.clusters.play_all.Given as goal

abbrev pub invariant-loop-q : goal.invariant-loop-q
invariant-loop-q g l = record {
  count : length l.table.homes ≡ 5;
  fit : (q t : ℕ) → q < 5 → q ≢ 2 → t < 8 → HasProcessor l.table (slice_index l.table.homes q) q × HasTask l.table (slice_index l.table.homes q) t;
}
