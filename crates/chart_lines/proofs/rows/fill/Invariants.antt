use Rattle.std.proofs.Common.{◌≡◌, ◌-◌, length}
use Rattle.chart_texts.specs.Rows.{filled}
use Rattle.chart_lines.proofs.rows.fill.Given as goal

-- filled up, what was written so far is what is to be written
abbrev pub invariant-loop-out : goal.invariant-loop-out
invariant-loop-out l = filled l.width l.out.items ≡ filled l.fn.width l.fn.out.items

abbrev pub decreases-loop-out : goal.decreases-loop-out
decreases-loop-out l = l.width - length l.out.items
