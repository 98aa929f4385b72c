use Rattle.std.proofs.Common.{◌≡◌, ℕ, ◌<◌, true}
use Rattle.body_play.specs.Turns.{row_ended, row_of}
use Rattle.body_play.proofs.turns.Turns.have_ended.Given as goal

-- the rows that were passed have ended
abbrev pub invariant-loop-row : goal.invariant-loop-row
invariant-loop-row l = (q : ℕ) → q < l.row-index → row_ended l.self.horizon (row_of l.self.rows q) ≡ true
