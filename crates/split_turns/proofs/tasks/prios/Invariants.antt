use Rattle.std.proofs.Common.{◌≡◌, map}
use Rattle.rt_rules.specs.Numbers.{numbers_from}
use Rattle.rt_model.specs.Group.{task}
use Rattle.rt_plays.specs.Plays.{group_with}
use Rattle.split_turns.proofs.tasks.prios.Given as goal

abbrev pub invariant-loop-task : goal.invariant-loop-task
invariant-loop-task l = l.prios.items ≡ map (λ t. (task (group_with l.parts 0) t).prio) (numbers_from 0 l.task)
