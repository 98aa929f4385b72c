use Rattle.std.proofs.Common.{◌≡◌, ◌∷◌, ◌++◌, map, drop, flat_map}
use Rattle.chart_cells.specs.Cells.{sem_numbers}
use Rattle.event_texts.specs.Records.{quoted}
use Rattle.event_lines.specs.inside.Openings.{name_in}
use Rattle.event_lines.proofs.task_spans.put_more_held.Given as goal

-- what was written, and then what is left, is the whole
abbrev pub invariant-loop-sem : goal.invariant-loop-sem
invariant-loop-sem l = l.text.items ++ flat_map (λ w. 44 ∷ w) (map quoted (map (name_in l.sems) (sem_numbers (drop l.sem-index l.held)))) ≡ l.fn.text.items ++ flat_map (λ w. 44 ∷ w) (map quoted (map (name_in l.sems) (sem_numbers l.held)))
