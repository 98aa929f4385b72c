use Rattle.std.proofs.Common.{◌≡◌, map, take}
use Rattle.chart_rows.proofs.Changed.{changed}
use Rattle.event_lines.specs.Shown.{resv_track_shown}
use Rattle.span_feed.specs.Spanned.{paired, resv_cleared, resv_more}
use Rattle.span_feed.proofs.taking.take_resvs.Given as goal

-- the column of those so far is taken
abbrev pub invariant-loop-i : goal.invariant-loop-i
invariant-loop-i l =
    (l.rows ≡ changed resv_cleared l.i l.fn.rows)
    × (map resv_track_shown l.tracks ≡ paired (resv_more l.from l.to) (take l.i l.fn.rows) (map resv_track_shown l.fn.tracks))
