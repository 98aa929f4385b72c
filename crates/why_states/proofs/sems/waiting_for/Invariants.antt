use Rattle.std.proofs.Common.{◌≡◌, ◌++◌, ◌&&◌, drop}
use Rattle.std.specs.Prelude.{filter}
use Rattle.rt_base.specs.TaskNos.{numbers}
use Rattle.rt_model.specs.Past.{Past}
use Rattle.rt_rules.specs.Numbers.{is}
use Rattle.rt_model.specs.Holders.{awaits}
use Rattle.why_states.specs.States.{IsAt, group_of}
use Rattle.why_states.proofs.sems.waiting_for.Given as goal

-- those so far, and then those of the rest, are those of all
abbrev pub invariant-loop-task : goal.invariant-loop-task
invariant-loop-task l = (past : Past) → IsAt past l.state → numbers l.waiting.items ++ filter (λ n. is l.sem.0 (awaits (group_of l.state) n past)) (numbers (drop l.task-index l.state.tasks.now)) ≡ filter (λ n. is l.sem.0 (awaits (group_of l.state) n past)) (numbers l.state.tasks.now)
