use Rattle.std.proofs.Common.{◌≡◌, ◌++◌, flat_map, drop}
use Rattle.chart_texts.specs.CpuLines as spec
use Rattle.chart_lines.proofs.cpus.budget_signs.Given as goal

-- the signs so far, and then those of the rest, are all
abbrev pub invariant-loop-units : goal.invariant-loop-units
invariant-loop-units l = l.signs.items ++ flat_map spec.budget_signs (drop l.units-index l.left) ≡ flat_map spec.budget_signs l.left
