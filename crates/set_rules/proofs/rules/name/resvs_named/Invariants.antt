use Rattle.std.proofs.Common.{◌≡◌, ℕ, List, [], take, drop}
use Rattle.std.specs.List.{list_any}
use Rattle.std.specs.Prelude.{bytes_eq}
use Rattle.rt_task.specs.declared.draft.DraftResv.{DraftResv}
use Rattle.rt_task.specs.NameRules as rules
use Rattle.set_rules.specs.inside.NamesSeen.{has_name}
use Rattle.rt_task.specs.Refusals.{first_failing}
use Rattle.set_rules.proofs.rules.name.resvs_named.Given as goal

-- the first failing of what is left is that of all; the names so far
abbrev pub invariant-loop-i : goal.invariant-loop-i
invariant-loop-i l = record {
  rest : first_failing (rules.resv_name l.d) (take l.i l.resvs) (drop l.i l.resvs) ≡ first_failing (rules.resv_name l.d) [] l.resvs;
  names : (w : List ℕ) → has_name l.names w ≡ list_any (λ (x : DraftResv). bytes_eq x.name w) (take l.i l.resvs);
}
