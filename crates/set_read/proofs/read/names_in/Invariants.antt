use Rattle.std.proofs.Common.{◌≡◌, ◌++◌, map, drop}
use Rattle.serde_json.specs.View.{view}
use Rattle.set_read.specs.Document as document
use Rattle.set_read.proofs.read.names_in.Given as goal

abbrev pub invariant-loop-item : goal.invariant-loop-item
invariant-loop-item l = map (λ w. w.now) l.names.items ++ map document.name_in (map view (drop l.item-index l.items)) ≡ map document.name_in (map view l.items)
