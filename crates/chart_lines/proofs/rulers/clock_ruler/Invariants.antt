use Rattle.std.proofs.Common.{◌≡◌, [], None, drop}
use Rattle.chart_texts.specs.Rulers as spec
use Rattle.chart_lines.proofs.rulers.clock_ruler.Given as goal

-- the ruler so far, with the clocks that are left, is the whole
abbrev pub invariant-loop-i : goal.invariant-loop-i
invariant-loop-i l = spec.ruler_from l.ruler.items l.i (spec.new_clocks l.before (drop l.i l.clocks)) ≡ spec.ruler_from [] 0 (spec.new_clocks None l.clocks)
