use Rattle.std.proofs.Common.{◌≡◌, ℕ, ◌<◌, ◌==◌, false, length, get_or}
use Rattle.chart_rows.specs.Rows.{TaskKept}
use Rattle.chart_rows.proofs.finding.search.Given as goal

-- none of those so far is the task's
abbrev pub invariant-loop-i : goal.invariant-loop-i
invariant-loop-i l = (j : ℕ) (d : TaskKept) → j < l.i → j < length l.rows → ((get_or l.rows j d).task == l.task.0) ≡ false
