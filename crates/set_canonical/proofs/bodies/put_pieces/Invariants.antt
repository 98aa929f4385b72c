use Rattle.std.proofs.Common.{◌≡◌, ◌++◌, map, drop, nat_lt}
use Rattle.serde_json.specs.View.{items_of}
use Rattle.serde_json.specs.Written.{compact_text, items_text}
use Rattle.set_canonical.specs.Values.{array_data, piece_data, sem_names}
use Rattle.set_canonical.proofs.bodies.put_pieces.Given as goal

-- what was written, and then the rest of the items, is the whole array
abbrev pub invariant-loop-i : goal.invariant-loop-i
invariant-loop-i l = l.out.items ++ items_text (nat_lt 0 l.i) (items_of (map (piece_data (sem_names l.sems)) (drop l.i l.pieces))) ≡ l.fn.out.items ++ (l.before ++ compact_text (array_data (piece_data (sem_names l.sems)) l.pieces))
