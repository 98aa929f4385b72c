use Rattle.std.proofs.Common.{◌≡◌, map}
use Rattle.rt_rules.specs.Numbers.{numbers_from}
use Rattle.rt_plays.specs.Scripts.{script}
use Rattle.split_counts.specs.Room.{is_unlock}
use Rattle.split_laws.specs.Counts.{count_steps}
use Rattle.split_part.proofs.opening.quotas.Given as goal

-- those of the processors so far
abbrev pub invariant-loop-cpu : goal.invariant-loop-cpu
invariant-loop-cpu l = l.quotas.items ≡ map (λ q. count_steps is_unlock (script l.steps q)) (numbers_from 0 l.cpu)
