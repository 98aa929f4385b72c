use Rattle.std.proofs.Common.{◌≡◌, ◌≤◌, length, take}
use Rattle.chart_texts.specs.Rows as rows
use Rattle.chart_lines.proofs.rows.trimmed.Given as goal

-- what was left out so far are blanks
abbrev pub invariant-loop-end : goal.invariant-loop-end
invariant-loop-end l = record {
  within : l.end ≤ length l.text;
  same : rows.trimmed (take l.end l.text) ≡ rows.trimmed l.text;
}

abbrev pub decreases-loop-end : goal.decreases-loop-end
decreases-loop-end l = l.end
