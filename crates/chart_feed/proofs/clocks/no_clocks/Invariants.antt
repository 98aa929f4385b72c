use Rattle.std.proofs.Common.{◌≡◌, ◌<◌, ℕ, length, vec_len}
use Rattle.chart_feed.specs.Clocks.{clocks_at, no_clocks}
use Rattle.chart_feed.proofs.clocks.no_clocks.Given as goal

abbrev pub invariant-loop : goal.invariant-loop
invariant-loop l = (vec_len l.tasks ≡ l.counter) × ((t : ℕ) → t < length l.tasks.items → clocks_at l.tasks.items t ≡ no_clocks)
