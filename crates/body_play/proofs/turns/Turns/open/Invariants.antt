use Rattle.std.proofs.Common.{◌≡◌, ℕ, length, take}
use Rattle.rt_rules.specs.Numbers.{has}
use Rattle.body_play.specs.Turns.{numbers_of, row_of}
use Rattle.body_play.proofs.Rows.{given}
use Rattle.body_play.proofs.turns.Turns.open.Given as goal

abbrev pub invariant-loop-cpu : goal.invariant-loop-cpu
invariant-loop-cpu l = (length l.rows.items ≡ 64) × ((q : ℕ) → row_of l.rows.items q ≡ given (has q (numbers_of (take l.cpu-index l.cpus))))
