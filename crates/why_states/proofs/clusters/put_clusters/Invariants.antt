use Rattle.std.proofs.Common.{◌≡◌, ◌++◌}
use Rattle.std.specs.Prelude.{filter, flat_map}
use Rattle.rt_rules.specs.Numbers.{numbers_from}
use Rattle.rt_model.specs.Group.{first_in, in_group}
use Rattle.rt_model.specs.Past.{Past}
use Rattle.why_texts.specs.ClusterLines.{cluster_lines}
use Rattle.why_states.specs.States.{IsAt, group_of}
use Rattle.why_states.proofs.clusters.put_clusters.Given as goal

-- the lines of the clusters so far, and how many processors these have
abbrev pub invariant-loop-i : goal.invariant-loop-i
invariant-loop-i l = record {
  first : l.first ≡ first_in l.state.set.parts.now.clusters l.i;
  text : (past : Past) → IsAt past l.state → l.out.items ≡ l.initial.out.items ++ flat_map (λ c. cluster_lines (group_of l.state) c past) (filter (in_group (group_of l.state)) (numbers_from 0 l.i));
}
