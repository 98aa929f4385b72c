use Rattle.std.proofs.Common.{◌≡◌, ℕ, List, map, take}
use Rattle.std.specs.Prelude.{bytes_eq, unwrap_or}
use Rattle.indexmap.specs.IndexMap.{get_by}
use Rattle.set_read.specs.Document as document
use Rattle.set_read.proofs.names.numbers_of.Given as goal

-- the names so far have their positions
abbrev pub invariant-loop-i : goal.invariant-loop-i
invariant-loop-i l = (w : List ℕ) → unwrap_or (get_by (λ k. bytes_eq w k.now) l.index) 0 ≡ document.position_from 1 (map (λ k. k.now) (take l.i l.names)) w
