use Rattle.std.proofs.Common.{◌≡◌, ◌∷◌, ◌++◌, decimal, map, drop, flat_map}
use Rattle.chart_cells.specs.Cells.{cpu_numbers}
use Rattle.event_lines.proofs.task_spans.put_more_cpus.Given as goal

-- what was written, and then what is left, is the whole
abbrev pub invariant-loop-cpu : goal.invariant-loop-cpu
invariant-loop-cpu l = l.text.items ++ flat_map (λ w. 43 ∷ w) (map decimal (cpu_numbers (drop l.cpu-index l.cpus))) ≡ l.fn.text.items ++ flat_map (λ w. 43 ∷ w) (map decimal (cpu_numbers l.cpus))
