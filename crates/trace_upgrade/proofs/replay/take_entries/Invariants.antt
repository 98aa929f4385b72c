use Rattle.std.proofs.Common.{◌≡◌, drop}
use Rattle.trace_upgrade.specs.Said.{CanTake, with_entries}
use Rattle.trace_upgrade.proofs.replay.take_entries.Given as goal

-- with those still to come, the engine has all
abbrev pub invariant-loop-entry : goal.invariant-loop-entry
invariant-loop-entry l = record {
  can : CanTake l.engine (drop l.entry-index l.entries);
  same : with_entries (drop l.entry-index l.entries) l.engine ≡ with_entries l.entries l.initial.engine;
}
