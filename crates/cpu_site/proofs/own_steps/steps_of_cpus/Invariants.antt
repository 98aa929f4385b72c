use Rattle.std.proofs.Common.{◌≡◌, take}
use Rattle.std.specs.Prelude.{filter}
use Rattle.rt_task.specs.declared.Step.{Step}
use Rattle.rt_rules.specs.Numbers.{has}
use Rattle.cpu_site.specs.Cpus.{cpu_numbers}
use Rattle.cpu_site.proofs.own_steps.steps_of_cpus.Given as goal

abbrev pub invariant-loop-step : goal.invariant-loop-step
invariant-loop-step l = l.own.items ≡ filter (λ (s : Step). has s.cpu.0 (cpu_numbers l.cpus)) (take l.step-index l.steps)
