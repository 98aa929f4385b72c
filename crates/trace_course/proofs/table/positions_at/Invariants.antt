use Rattle.std.proofs.Common.{◌≡◌, ℕ, length, take}
use Rattle.std.specs.Prelude.{None, Some, if◌then◌else◌}
use Rattle.rt_rules.specs.Numbers.{has}
use Rattle.body_play.specs.Turns.{numbers_of}
use Rattle.trace_course.specs.Followed.{position_in}
use Rattle.trace_course.proofs.table.positions_at.Given as goal

abbrev pub invariant-loop-cpu : goal.invariant-loop-cpu
invariant-loop-cpu l =
    (length l.positions.items ≡ 64) × ((q : ℕ) → position_in l.positions.items q ≡ (if has q (numbers_of (take l.cpu-index l.cpus)) then Some l.position else None))
