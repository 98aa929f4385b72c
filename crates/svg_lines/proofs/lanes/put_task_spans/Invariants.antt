use Rattle.std.proofs.Common.{◌≡◌, ◌-◌, ◌++◌, ◌≤◌, length}
use Rattle.svg_texts.specs.TaskLanes as task_lanes
use Rattle.svg_texts.specs.Lanes.{drawn, lane}
use Rattle.svg_lines.specs.Shown.{runs_parts, spans_left}
use Rattle.svg_lines.proofs.lanes.put_task_spans.Given as goal

-- what was written, and then the spans that are left, is the lane
abbrev pub invariant-loop-at : goal.invariant-loop-at
invariant-loop-at l =
    let draw = task_lanes.draw_task_part l.set l.task l.y in
    record {
      within : l.at.run ≤ length l.runs;
      text : l.out.items ++ drawn draw l.edge (spans_left l.shown l.runs l.at) ≡ l.fn.out.items ++ lane draw l.edge (runs_parts l.shown l.runs);
    }

abbrev pub decreases-loop-at : goal.decreases-loop-at
decreases-loop-at l = length l.runs - l.at.run
