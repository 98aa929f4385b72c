use Rattle.std.proofs.Common.{◌≡◌, [], map, drop}
use Rattle.chart_texts.specs.Rulers as spec
use Rattle.chart_lines.proofs.rulers.label_ruler.Given as goal

-- the ruler so far, with the labels that are left, is the whole
abbrev pub invariant-loop-i : goal.invariant-loop-i
invariant-loop-i l = spec.ruler_from l.ruler.items l.i (map spec.fifth (drop l.i l.labels)) ≡ spec.ruler_from [] 0 (map spec.fifth l.labels)
