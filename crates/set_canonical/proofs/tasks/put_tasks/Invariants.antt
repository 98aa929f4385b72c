use Rattle.std.proofs.Common.{◌≡◌, ◌++◌, map, drop, nat_lt}
use Rattle.serde_json.specs.View.{items_of}
use Rattle.serde_json.specs.Written.{compact_text, items_text}
use Rattle.set_canonical.specs.Values.{array_data, task_data, sem_names, resv_names}
use Rattle.set_canonical.proofs.tasks.put_tasks.Given as goal

-- what was written, and then the rest of the items, is the whole array
abbrev pub invariant-loop-i : goal.invariant-loop-i
invariant-loop-i l = l.out.items ++ items_text (nat_lt 0 l.i) (items_of (map (task_data (sem_names l.sems) (resv_names l.resvs)) (drop l.i l.tasks))) ≡ l.fn.out.items ++ (l.before ++ compact_text (array_data (task_data (sem_names l.sems) (resv_names l.resvs)) l.tasks))
