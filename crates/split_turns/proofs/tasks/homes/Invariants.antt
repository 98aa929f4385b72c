use Rattle.std.proofs.Common.{◌≡◌, map}
use Rattle.rt_rules.specs.Numbers.{numbers_from}
use Rattle.rt_plays.specs.Plays.{group_with}
use Rattle.split_rules.specs.SemHistories.{seat_of}
use Rattle.split_turns.proofs.tasks.homes.Given as goal

abbrev pub invariant-loop-task : goal.invariant-loop-task
invariant-loop-task l = l.homes.items ≡ map (λ t. seat_of (group_with l.parts 0) t) (numbers_from 0 l.task)
