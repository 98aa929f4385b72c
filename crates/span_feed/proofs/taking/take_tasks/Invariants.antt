use Rattle.span_feed.proofs.Beside.{AreTaken}
use Rattle.span_feed.proofs.Taken.{IsTaken}
use Rattle.span_feed.proofs.taking.take_tasks.Given as goal

-- the column of those so far is taken
abbrev pub invariant-loop-i : goal.invariant-loop-i
invariant-loop-i l = AreTaken (IsTaken l.ready l.from l.to) l.i l.fn.rows l.fn.lanes l.rows l.lanes
