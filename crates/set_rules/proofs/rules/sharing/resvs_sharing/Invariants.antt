use Rattle.std.proofs.Common.{◌≡◌, [], take, drop}
use Rattle.rt_task.specs.Refusals.{first_failing}
use Rattle.rt_task.specs.SharingRules as rules
use Rattle.set_rules.specs.inside.Tables.{Knows}
use Rattle.set_rules.proofs.rules.sharing.resvs_sharing.Given as goal

-- what is known is of those so far, and the first failing of what is left is that of all
abbrev pub invariant-loop-i : goal.invariant-loop-i
invariant-loop-i l = record {
  known : Knows l.tables (take l.i l.resvs);
  rest : first_failing (rules.resv_sharing l.d) (take l.i l.resvs) (drop l.i l.resvs) ≡ first_failing (rules.resv_sharing l.d) [] l.resvs;
}
