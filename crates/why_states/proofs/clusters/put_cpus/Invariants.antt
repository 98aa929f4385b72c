use Rattle.std.proofs.Common.{◌≡◌, ◌-◌, ◌++◌}
use Rattle.std.specs.Prelude.{flat_map}
use Rattle.rt_rules.specs.Numbers.{numbers_from}
use Rattle.rt_model.specs.Past.{Past}
use Rattle.why_texts.specs.ClusterLines.{cpu_line}
use Rattle.why_states.specs.States.{IsAt, group_of}
use Rattle.why_states.proofs.clusters.put_cpus.Given as goal

-- the lines of the processors so far
abbrev pub invariant-loop-q : goal.invariant-loop-q
invariant-loop-q l = (past : Past) → IsAt past l.state → l.out.items ≡ l.initial.out.items ++ flat_map (λ q. cpu_line (group_of l.state) q past) (numbers_from l.first (l.q - l.first))
