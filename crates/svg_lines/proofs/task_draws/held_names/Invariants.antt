use Rattle.std.proofs.Common.{◌≡◌, ℕ, ◌-◌, ◌++◌, map, drop, slice_index_or}
use Rattle.rt_model.specs.Group.{no_sem}
use Rattle.chart_cells.specs.Cells.{sem_numbers}
use Rattle.svg_lines.specs.Words.{word_items}
use Rattle.svg_lines.proofs.task_draws.held_names.Given as goal

-- the words so far, and then those of the rest, are all
abbrev pub invariant-loop-sem : goal.invariant-loop-sem
invariant-loop-sem l = let name = λ (s : ℕ). (slice_index_or l.sems (s - 1) no_sem).name in word_items l.words.items ++ map name (sem_numbers (drop l.sem-index l.held)) ≡ map name (sem_numbers l.held)
