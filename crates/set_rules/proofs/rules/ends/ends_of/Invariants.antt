use Rattle.std.proofs.Common.{◌≡◌, ◌++◌, drop}
use Rattle.set_rules.specs.Ends.{ends_from}
use Rattle.set_rules.proofs.rules.ends.ends_of.Given as goal

-- the ends so far, and then those of the rest
abbrev pub invariant-loop-c : goal.invariant-loop-c
invariant-loop-c l = l.ends.items ++ ends_from l.end (drop l.c-index l.clusters) ≡ ends_from 0 l.clusters
