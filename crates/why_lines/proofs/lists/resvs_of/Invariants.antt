use Rattle.std.proofs.Common.{◌≡◌, map}
use Rattle.std.specs.Prelude.{filter}
use Rattle.rt_base.specs.declared.ResvNo.{ResvNo}
use Rattle.rt_rules.specs.Numbers.{numbers_from}
use Rattle.rt_model.specs.Group.{in_group, resv}
use Rattle.why_lines.specs.GroupSets.{group_in}
use Rattle.why_lines.proofs.lists.resvs_of.Given as goal

-- the reservations so far
abbrev pub invariant-loop-i : goal.invariant-loop-i
invariant-loop-i l = map (λ (r : ResvNo). r.0) l.resvs.items ≡ map (λ n. n) (filter (λ r. in_group (group_in l.set) (resv (group_in l.set) r).cluster.0) (numbers_from 1 l.i))
