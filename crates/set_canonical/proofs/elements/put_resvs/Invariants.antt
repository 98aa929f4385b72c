use Rattle.std.proofs.Common.{◌≡◌, ◌++◌, map, drop, nat_lt}
use Rattle.serde_json.specs.View.{items_of}
use Rattle.serde_json.specs.Written.{compact_text, items_text}
use Rattle.set_canonical.specs.Values.{array_data, resv_data}
use Rattle.set_canonical.proofs.elements.put_resvs.Given as goal

-- what was written, and then the rest of the items, is the whole array
abbrev pub invariant-loop-i : goal.invariant-loop-i
invariant-loop-i l = l.out.items ++ items_text (nat_lt 0 l.i) (items_of (map resv_data (drop l.i l.resvs))) ≡ l.fn.out.items ++ (l.before ++ compact_text (array_data resv_data l.resvs))
