use Rattle.std.proofs.Common.{◌≡◌, ◌++◌}
use Rattle.split_part.specs.inside.Deals.{lists}
use Rattle.split_part.specs.Openings.{rows_in, turns_in}
use Rattle.split_part.proofs.opening.apart.Given as goal

-- those so far are apart
abbrev pub invariant-loop-one : goal.invariant-loop-one
invariant-loop-one l = record {
  turns : l.kept.items ++ turns_in l.one-iterator.rest.items ≡ turns_in l.fn.turns;
  rows : lists l.rows.items ++ rows_in l.one-iterator.rest.items ≡ rows_in l.fn.turns;
}
