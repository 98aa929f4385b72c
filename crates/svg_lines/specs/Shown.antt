-- Parts as the definitions have them, and runs of equal ones.
use Rattle.std.specs.Prelude.{◌≡◌, ℕ, List, ◌∷◌, drop, flat_map, map}
use Rattle.rt_base.specs.TaskNos.{number_of_task}
use Rattle.trace_views.specs.Cells as views
use Rattle.trace_views.specs.Spans.{Span, spans_from}
use Rattle.chart_cells.specs.Cells.{cell_shown, doing_shown, playing_shown, sem_numbers}
use Rattle.chart_cells.specs.declared.cells.Cell.{Cell}
use Rattle.chart_cells.specs.declared.cells.Marks.{Marks}
use Rattle.chart_cells.specs.declared.cells.Run.{Run}
use Rattle.svg_texts.specs.Parts as spec
use Rattle.svg_texts.specs.Parts.{same_part}
use Rattle.svg_lines.specs.declared.parts.CpuLane.{CpuLane}
use Rattle.svg_lines.specs.declared.parts.CpuLane.TheVariants as cpu_lanes
use Rattle.svg_lines.specs.declared.parts.Part.{Part}
use Rattle.svg_lines.specs.declared.parts.Part.TheVariants.{Held, Job, Left, Link, Playing, Raised, Section}
use Rattle.svg_lines.specs.declared.parts.Place.{Place}
use Rattle.svg_lines.specs.declared.parts.TaskLane.{TaskLane}
use Rattle.svg_lines.specs.declared.parts.TaskLane.TheVariants as task_lanes

abbrev pub part_shown : Part → spec.Part
part_shown (Job d k) = spec.job (doing_shown d) k
part_shown (Held ss) = spec.held (sem_numbers ss.items)
part_shown (Section b) = spec.section b
part_shown (Raised b) = spec.raised b
part_shown (Playing a) = spec.playing (playing_shown a)
part_shown (Link o) = spec.link (number_of_task o)
part_shown (Left n) = spec.left n

abbrev pub task_part_of : TaskLane → views.TaskCell → spec.Part
task_part_of task_lanes.Job c = spec.job c.doing c.job
task_part_of task_lanes.Held c = spec.held c.held
task_part_of task_lanes.Section c = spec.section c.non_preemptive
task_part_of task_lanes.Raised c = spec.raised c.raised

-- of a task's cell as code has it, of the columns of a run, and of runs
abbrev pub lane_part : TaskLane → Cell → spec.Part
lane_part l c = task_part_of l (cell_shown c)

abbrev pub run_parts : TaskLane → Run → List spec.Part
run_parts l r = map (λ (m : Marks). lane_part l r.cell) r.marks.items

abbrev pub runs_parts : TaskLane → List Run → List spec.Part
runs_parts l rs = flat_map (run_parts l) rs

-- the spans of a lane from a place on
abbrev pub spans_left : TaskLane → List Run → Place → List (Span spec.Part)
spans_left l rs p = spans_from same_part p.column (runs_parts l (drop p.run rs))

abbrev pub cpu_part_of : CpuLane → views.CpuCell → spec.Part
cpu_part_of cpu_lanes.Playing c = spec.playing c.playing
cpu_part_of cpu_lanes.Link c = spec.link c.link

-- the first span from a column on reaches to another
abbrev pub RunsTo : List spec.Part → ℕ → ℕ → Type 0
RunsTo parts from to = (x : spec.Part) (rest : List spec.Part) → drop from parts ≡ x ∷ rest
    → spans_from same_part from (drop from parts) ≡ record { from = from; to = to; value = x } ∷ spans_from same_part to (drop to parts)
