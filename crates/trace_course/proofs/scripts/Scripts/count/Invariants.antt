use Rattle.std.proofs.Common.{◌≡◌, count_by, take}
use Rattle.rt_task.specs.declared.Step.{Step}
use Rattle.trace_course.specs.Followed.{has_position}
use Rattle.trace_course.proofs.scripts.Scripts.count.Given as goal

abbrev pub invariant-loop-step : goal.invariant-loop-step
invariant-loop-step l = l.count ≡ count_by (λ (s : Step). has_position l.self.positions.items s.cpu.0) (take l.step-index l.steps)
