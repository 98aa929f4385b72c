use Rattle.std.proofs.Common.{◌≡◌, ◌-◌, ◌++◌, ◌≤◌, length, map, drop}
use Rattle.svg_texts.specs.CpuRows as cpu_rows
use Rattle.svg_texts.specs.Lanes.{drawn, lane}
use Rattle.svg_texts.specs.Parts.{same_part}
use Rattle.trace_views.specs.Spans.{spans_from}
use Rattle.svg_lines.specs.Shown.{part_shown}
use Rattle.svg_lines.proofs.lanes.put_cpu_spans.Given as goal

-- what was written, and then the spans that are left, is the lane
abbrev pub invariant-loop-from : goal.invariant-loop-from
invariant-loop-from l =
    let draw = cpu_rows.draw_cpu_part l.set l.y in
    record {
      within : l.from ≤ length l.parts;
      text : l.out.items ++ drawn draw l.edge (spans_from same_part l.from (drop l.from (map part_shown l.parts))) ≡ l.fn.out.items ++ lane draw l.edge (map part_shown l.parts);
    }

abbrev pub decreases-loop-from : goal.decreases-loop-from
decreases-loop-from l = length l.parts - l.from
