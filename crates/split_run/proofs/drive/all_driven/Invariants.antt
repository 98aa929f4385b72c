use Rattle.std.proofs.Common.{◌≡◌, ◌++◌, map}
use Rattle.std.specs.Prelude.{Ok}
use Rattle.split_run.proofs.drive.all_driven.Given as goal

-- the seats that were taken, and then the results that are left, are all of them
abbrev pub invariant-loop-run : goal.invariant-loop-run
invariant-loop-run g l = l.fn.runs.items ≡ map (λ a. Ok a) l.seats.items ++ l.run-iterator.rest.items
