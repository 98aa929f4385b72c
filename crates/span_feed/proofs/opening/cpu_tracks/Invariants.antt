use Rattle.std.proofs.Common.{◌≡◌, [], map, take}
use Rattle.chart_cells.specs.Cells.{cpu_numbers}
use Rattle.rt_model.specs.Group.{Group}
use Rattle.event_lines.specs.Shown.{cpu_track_shown}
use Rattle.span_feed.specs.Spanned.{cpu_spanned}
use Rattle.span_feed.proofs.opening.cpu_tracks.Given as goal

-- the tracks of those so far
abbrev pub invariant-loop-cpu : goal.invariant-loop-cpu
invariant-loop-cpu l = (g : Group) → map cpu_track_shown l.tracks.items ≡ map (cpu_spanned g []) (cpu_numbers (take l.cpu-index l.cpus))
