use Rattle.std.proofs.Common.{◌≡◌, map, take}
use Rattle.rt_model.specs.Past.{Past}
use Rattle.rank_afresh.specs.Standing.{IsAt, group_of}
use Rattle.chart_rows.specs.inside.Plays.{played_shown}
use Rattle.chart_rows.specs.Rows as rows
use Rattle.chart_rows.proofs.seeing.plays.Given as goal

-- those so far
abbrev pub invariant-loop-row : goal.invariant-loop-row
invariant-loop-row l = (past : Past) → IsAt l.afresh past → map played_shown l.plays.items ≡ map (rows.played (group_of l.afresh) past) (take l.row-index l.cpus)
