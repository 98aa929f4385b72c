use Rattle.std.proofs.Common.{◌≡◌, ◌++◌, decimal, map, drop}
use Rattle.chart_cells.specs.Cells.{cpu_numbers}
use Rattle.svg_lines.specs.Words.{word_items}
use Rattle.svg_lines.proofs.task_draws.cpu_texts.Given as goal

-- the words so far, and then those of the rest, are all
abbrev pub invariant-loop-cpu : goal.invariant-loop-cpu
invariant-loop-cpu l = word_items l.words.items ++ map decimal (cpu_numbers (drop l.cpu-index l.cpus)) ≡ map decimal (cpu_numbers l.cpus)
