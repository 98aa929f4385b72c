use Rattle.std.proofs.Common.{◌≡◌, ℕ, ◌<◌, [], get_or, vec_len}
use Rattle.rt_task.specs.declared.draft.Draft.{Draft}
use Rattle.set_rules.specs.declared.rules.spread.Spread.{Spread}
use Rattle.set_rules.specs.inside.Spreads.{spread_of}
use Rattle.set_rules.proofs.rules.spread.unused.Given as goal

abbrev pub invariant-loop-i : goal.invariant-loop-i
invariant-loop-i l = record {
  count : vec_len l.spreads ≡ l.i;
  unused : (d : Draft) (i : ℕ) (e : Spread) → i < l.i → get_or l.spreads.items i e ≡ spread_of d [];
}
