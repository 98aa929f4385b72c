-- The tracks of a group after a past, over the ticks.
use Rattle.std.specs.Prelude.{ℕ, map, nat_le, Option, None, Some, if◌then◌else◌}
use Rattle.rt_rules.specs.Numbers.{numbers_from}
use Rattle.rt_model.specs.Group as groups
use Rattle.rt_model.specs.Group.{Group, group_processors}
use Rattle.rt_model.specs.Past.{Past, now}
use Rattle.trace_views.specs.Cells.{cpu_cell, resv_cell, task_cell}
use Rattle.trace_views.specs.Columns.{tick_columns}
use Rattle.trace_views.specs.JobRows.{listed}
use Rattle.trace_views.specs.JobTimes as times
use Rattle.trace_views.specs.JobTimes.{deadline_of, release_of}
use Rattle.trace_views.specs.Marks.{is_missed}
use Rattle.trace_views.specs.Spans as runs
use Rattle.chart_texts.specs.Charts.{group_resvs}
use Rattle.event_texts.specs.Budgets.{same_count}
use Rattle.event_texts.specs.CpuSpans as cpu_texts
use Rattle.event_texts.specs.TaskSpans as task_texts
use Rattle.event_lines.specs.Tracks.{CpuTrack, Due, GroupTracks, JobMarks, ResvTrack, TaskTrack}

module _ (g : Group) where
  abbrev pub release_mark : ℕ → ℕ → Past → Option ℕ
  release_mark t k past = if nat_le (release_of g t k past) (now past) then Some (release_of g t k past) else None

  abbrev pub due_of : ℕ → ℕ → Past → Due
  due_of t k past = record { tick = deadline_of g t k past; missed = is_missed g t past k }

  abbrev pub deadline_mark : ℕ → ℕ → Past → Option Due
  deadline_mark t k past = if nat_le (deadline_of g t k past) (now past) then Some (due_of t k past) else None

  abbrev pub job_marks : ℕ → Past → ℕ → JobMarks
  job_marks t past k = record {
    job = k;
    release = release_mark t k past;
    deadline = deadline_mark t k past;
    end = times.end t k past;
  }

  unfoldable pub task_track : Past → ℕ → TaskTrack
  task_track past t = record {
    task = t;
    spans = runs.spans task_texts.same_cell (map (task_cell g t) (tick_columns past));
    jobs = map (job_marks t past) (numbers_from 1 (listed g t past));
  }

  unfoldable pub cpu_track : Past → ℕ → CpuTrack
  cpu_track past q = record { cpu = q; spans = runs.spans cpu_texts.same_cell (map (cpu_cell g q) (tick_columns past)) }

  unfoldable pub resv_track : Past → ℕ → ResvTrack
  resv_track past r = record { resv = r; spans = runs.spans same_count (map (resv_cell g r) (tick_columns past)) }

  unfoldable pub tracks_of : Past → GroupTracks
  tracks_of past = record {
    group = g.number;
    tasks = map (task_track past) (groups.tasks g);
    cpus = map (cpu_track past) (group_processors g);
    resvs = map (resv_track past) (group_resvs g);
  }
