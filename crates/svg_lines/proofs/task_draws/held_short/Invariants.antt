use Rattle.std.proofs.Common.{◌≡◌, ◌++◌, map, drop}
use Rattle.chart_cells.specs.Cells.{sem_numbers}
use Rattle.svg_texts.specs.Elements.{short_name}
use Rattle.svg_lines.specs.Words.{word_items}
use Rattle.svg_lines.proofs.task_draws.held_short.Given as goal

-- the words so far, and then those of the rest, are all
abbrev pub invariant-loop-sem : goal.invariant-loop-sem
invariant-loop-sem l = word_items l.words.items ++ map short_name (sem_numbers (drop l.sem-index l.held)) ≡ map short_name (sem_numbers l.held)
