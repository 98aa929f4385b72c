use Rattle.std.proofs.Common.{◌≡◌, ◌++◌, map, drop, nat_lt, codes}
use Rattle.serde_json.specs.View.{items_of}
use Rattle.serde_json.specs.Written.{compact_text, items_text}
use Rattle.set_canonical.specs.Values.{array_data, slot_data}
use Rattle.set_canonical.proofs.elements.put_table.Given as goal

-- what was written, and then the rest of the items, is the whole array
abbrev pub invariant-loop-i : goal.invariant-loop-i
invariant-loop-i l = l.out.items ++ items_text (nat_lt 0 l.i) (items_of (map slot_data (drop l.i l.slots))) ≡ l.fn.out.items ++ (codes ",\"slots\":" ++ compact_text (array_data slot_data l.slots))
