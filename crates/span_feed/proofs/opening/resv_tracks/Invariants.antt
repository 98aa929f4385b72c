use Rattle.std.proofs.Common.{◌≡◌, [], map, take}
use Rattle.chart_rows.specs.Units.{resv_numbers}
use Rattle.rt_model.specs.Group.{Group}
use Rattle.event_lines.specs.Shown.{resv_track_shown}
use Rattle.span_feed.specs.Spanned.{resv_spanned}
use Rattle.span_feed.proofs.opening.resv_tracks.Given as goal

-- the tracks of those so far
abbrev pub invariant-loop-resv : goal.invariant-loop-resv
invariant-loop-resv l = (g : Group) → map resv_track_shown l.tracks.items ≡ map (resv_spanned g []) (resv_numbers (take l.resv-index l.resvs))
