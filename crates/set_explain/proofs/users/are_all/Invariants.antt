use Rattle.std.proofs.Common.{◌≡◌, drop}
use Rattle.std.specs.Prelude.{◌==◌}
use Rattle.std.specs.List.{list_all}
use Rattle.set_explain.proofs.users.are_all.Given as goal

abbrev pub invariant-loop-y : goal.invariant-loop-y
invariant-loop-y l = list_all (λ y. y == l.x) (drop l.y-index l.found) ≡ list_all (λ y. y == l.x) l.found
