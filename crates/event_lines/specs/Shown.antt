-- Tracks as the definitions have them.
use Rattle.std.specs.Prelude.{ℕ, map, option_map}
use Rattle.trace_views.specs.Cells.{CpuCell, TaskCell}
use Rattle.trace_views.specs.Spans.{Span}
use Rattle.chart_cells.specs.Cells.{cell_shown, cpu_cell_shown}
use Rattle.event_lines.specs.Tracks as views
use Rattle.event_lines.specs.declared.tracks.BudgetSpan.{BudgetSpan}
use Rattle.event_lines.specs.declared.tracks.CpuSpan.{CpuSpan}
use Rattle.event_lines.specs.declared.tracks.CpuTrack.{CpuTrack}
use Rattle.event_lines.specs.declared.tracks.Due.{Due}
use Rattle.event_lines.specs.declared.tracks.GroupTracks.{GroupTracks}
use Rattle.event_lines.specs.declared.tracks.JobMarks.{JobMarks}
use Rattle.event_lines.specs.declared.tracks.ResvTrack.{ResvTrack}
use Rattle.event_lines.specs.declared.tracks.TaskSpan.{TaskSpan}
use Rattle.event_lines.specs.declared.tracks.TaskTrack.{TaskTrack}

abbrev pub task_span_shown : TaskSpan → Span TaskCell
task_span_shown s = record { from = s.from; to = s.to; value = cell_shown s.cell }

abbrev pub cpu_span_shown : CpuSpan → Span CpuCell
cpu_span_shown s = record { from = s.from; to = s.to; value = cpu_cell_shown s.cell }

abbrev pub budget_span_shown : BudgetSpan → Span ℕ
budget_span_shown s = record { from = s.from; to = s.to; value = s.left }

abbrev pub due_shown : Due → views.Due
due_shown d = record { tick = d.tick; missed = d.missed }

abbrev pub job_marks_shown : JobMarks → views.JobMarks
job_marks_shown j = record { job = j.job; release = j.release; deadline = option_map due_shown j.deadline; end = j.end }

abbrev pub task_track_shown : TaskTrack → views.TaskTrack
task_track_shown x = record {
  task = x.task.0;
  spans = map task_span_shown x.spans.items;
  jobs = map job_marks_shown x.jobs.items;
}

abbrev pub cpu_track_shown : CpuTrack → views.CpuTrack
cpu_track_shown x = record { cpu = x.cpu.0; spans = map cpu_span_shown x.spans.items }

abbrev pub resv_track_shown : ResvTrack → views.ResvTrack
resv_track_shown x = record { resv = x.resv.0; spans = map budget_span_shown x.spans.items }

abbrev pub group_tracks_shown : GroupTracks → views.GroupTracks
group_tracks_shown x = record {
  group = x.group.0;
  tasks = map task_track_shown x.tasks.items;
  cpus = map cpu_track_shown x.cpus.items;
  resvs = map resv_track_shown x.resvs.items;
}
