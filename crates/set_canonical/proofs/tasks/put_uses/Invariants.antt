use Rattle.std.proofs.Common.{◌≡◌, ◌++◌, map, drop, nat_lt, codes}
use Rattle.rt_base.specs.declared.SemNo.{SemNo}
use Rattle.serde_json.specs.Data.{string}
use Rattle.serde_json.specs.View.{items_of}
use Rattle.serde_json.specs.Written.{compact_text, items_text}
use Rattle.set_canonical.specs.Values.{name_at, sem_names, uses_data}
use Rattle.set_canonical.proofs.tasks.put_uses.Given as goal

-- what was written, and then the rest of the items, is the whole array
abbrev pub invariant-loop-i : goal.invariant-loop-i
invariant-loop-i l = l.out.items ++ items_text (nat_lt 0 l.i) (items_of (map (λ (s : SemNo). string (name_at (sem_names l.sems) s.0)) (drop l.i l.uses))) ≡ l.fn.out.items ++ (codes ",\"uses\":" ++ compact_text (uses_data (sem_names l.sems) l.uses))
