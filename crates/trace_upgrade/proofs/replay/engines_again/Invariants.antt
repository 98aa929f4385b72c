use Rattle.std.proofs.Common.{◌≡◌, ◌++◌, drop}
use Rattle.trace_upgrade.proofs.replay.engines_again.Given as goal

-- with the groups still to come, there are all
abbrev pub invariant-loop-group : goal.invariant-loop-group
invariant-loop-group l = l.engines.items ++ drop l.group-index l.groups ≡ l.groups
