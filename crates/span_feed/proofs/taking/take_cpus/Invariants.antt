use Rattle.std.proofs.Common.{◌≡◌, map, take}
use Rattle.chart_rows.proofs.Changed.{changed}
use Rattle.event_lines.specs.Shown.{cpu_track_shown}
use Rattle.span_feed.specs.Spanned.{paired, cpu_cleared, cpu_more}
use Rattle.span_feed.proofs.taking.take_cpus.Given as goal

-- the column of those so far is taken
abbrev pub invariant-loop-i : goal.invariant-loop-i
invariant-loop-i l =
    (l.rows ≡ changed cpu_cleared l.i l.fn.rows)
    × (map cpu_track_shown l.tracks ≡ paired (cpu_more l.from l.to) (take l.i l.fn.rows) (map cpu_track_shown l.fn.tracks))
