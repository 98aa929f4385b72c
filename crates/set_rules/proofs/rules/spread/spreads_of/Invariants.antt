use Rattle.std.proofs.Common.{◌≡◌, ℕ, ◌+◌, ◌<◌, length, get_or, take, vec_len}
use Rattle.set_rules.specs.declared.rules.spread.Spread.{Spread}
use Rattle.set_rules.specs.inside.Spreads.{spread_of, clusters_among}
use Rattle.set_rules.proofs.rules.spread.spreads_of.Given as goal

-- of the tasks so far
abbrev pub invariant-loop-p : goal.invariant-loop-p
invariant-loop-p l = record {
  count : vec_len l.spreads ≡ length l.d.sems;
  spreads : (i : ℕ) (e : Spread) → i < length l.d.sems → get_or l.spreads.items i e ≡ spread_of l.d (clusters_among (take l.p-index l.p-items) (i + 1));
}
