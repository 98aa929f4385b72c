use Rattle.std.proofs.Common.{◌≡◌, ℕ, ◌<◌, true, get_or}
use Rattle.std.specs.Prelude.{None, is_some}
use Rattle.link_table.proofs.places.put.Given as goal

-- all before are taken, and nothing has changed
abbrev pub invariant-loop-q : goal.invariant-loop-q
invariant-loop-q l = record {
  taken : (k : ℕ) → k < l.q → is_some (get_or l.links k None) ≡ true;
  links : l.links ≡ l.fn.links;
}
