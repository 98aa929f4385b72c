use Rattle.std.proofs.Common.{◌≡◌, ◌+◌, ◌++◌, drop}
use Rattle.chart_texts.specs.ChartText as spec
use Rattle.chart_lines.proofs.page.put_sems.Given as goal

-- what was written, and then the rest of the semaphores, are all the semaphores
abbrev pub invariant-loop-i : goal.invariant-loop-i
invariant-loop-i l = l.out.items ++ spec.sem_lines_from (l.i + 1) (drop l.i l.sems) ≡ l.fn.out.items ++ spec.sems_text l.sems
