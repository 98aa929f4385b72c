use Rattle.std.proofs.Common.{◌≡◌, take}
use Rattle.group_engine.specs.inside.Touching.{all_requeued}
use Rattle.group_engine.proofs.state.GroupState.requeue_changed.Given as goal

-- the tasks so far are put where they stand
abbrev pub invariant-loop-i : goal.invariant-loop-i
invariant-loop-i l = l.self ≡ all_requeued l.parts (take l.i l.fn.self.core.facts.resvs.changed) l.fn.self
