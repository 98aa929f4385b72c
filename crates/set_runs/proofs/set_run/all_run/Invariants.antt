use Rattle.std.proofs.Common.{◌≡◌, ◌++◌, map, Ok}
use Rattle.set_runs.proofs.set_run.all_run.Given as goal

-- the engines that were taken, and then the results that are left, are all of them
abbrev pub invariant-loop-run : goal.invariant-loop-run
invariant-loop-run l = l.fn.runs.items ≡ map (λ x. Ok x) l.engines.items ++ l.run-iterator.rest.items
