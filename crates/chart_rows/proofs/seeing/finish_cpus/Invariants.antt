use Rattle.std.proofs.Common.{◌≡◌}
use Rattle.rt_model.specs.Past.{Past}
use Rattle.rank_afresh.specs.Standing.{IsAt, group_of}
use Rattle.chart_rows.specs.Rows as rows
use Rattle.chart_rows.proofs.Changed.{changed}
use Rattle.chart_rows.proofs.seeing.finish_cpus.Given as goal

-- those so far are finished
abbrev pub invariant-loop-row : goal.invariant-loop-row
invariant-loop-row l = (past : Past) → IsAt l.afresh past → l.cpus ≡ changed (rows.cpu_finished (group_of l.afresh) past) l.row-index l.fn.cpus
