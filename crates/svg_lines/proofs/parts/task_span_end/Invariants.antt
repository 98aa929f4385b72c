use Rattle.std.proofs.Common.{◌≡◌, ◌-◌, ◌++◌, ◌<◌, ◌≤◌, length, drop, get_or, replicate}
use Rattle.chart_cells.specs.declared.cells.Run.{Run}
use Rattle.svg_lines.specs.Shown.{lane_part, runs_parts}
use Rattle.svg_lines.proofs.parts.task_span_end.Given as goal

-- so far all runs show the part of the first
abbrev pub invariant-loop-to : goal.invariant-loop-to
invariant-loop-to l = record {
  some : l.from.column < l.column;
  after : l.from.run < l.to;
  within : l.to ≤ length l.runs;
  equal : (d : Run) → runs_parts l.lane (drop l.from.run l.runs) ≡ replicate (l.column - l.from.column) (lane_part l.lane (get_or l.runs l.from.run d).cell) ++ runs_parts l.lane (drop l.to l.runs);
}

abbrev pub decreases-loop-to : goal.decreases-loop-to
decreases-loop-to l = length l.runs - l.to
