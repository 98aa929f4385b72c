use Rattle.std.proofs.Common.{◌≡◌, length, map}
use Rattle.rt_rules.specs.Numbers.{numbers_from}
use Rattle.rt_plays.specs.Scripts.{script}
use Rattle.split_turns.proofs.quotas.counts.Given as goal

abbrev pub invariant-loop-cpu : goal.invariant-loop-cpu
invariant-loop-cpu l = l.counts.items ≡ map (λ q. length (script l.steps q)) (numbers_from 0 l.cpu)
