use Rattle.std.proofs.Common.{◌≡◌, ◌+◌, ◌-◌, ◌≤◌, true, ◌∷◌, ◌++◌, length, vec_capacity, vec_len}
use Rattle.rt_base.specs.TaskNos.{numbers}
use Rattle.rt_rules.specs.Numbers.{has}
use Rattle.key_queue.specs.Ring.{ring_from, ring_tasks}
use Rattle.key_queue.proofs.line.add_ring.Given as goal

-- what was added is followed by what the walk has still to find
abbrev pub invariant-loop-step : goal.invariant-loop-step
invariant-loop-step l = record {
  at : has l.position (l.room ∷ ring_tasks l.next l.room) ≡ true;
  joined : numbers l.into.items ++ ring_from l.next l.room (l.room - l._step) l.position ≡ numbers l.initial.into.items ++ ring_tasks l.next l.room;
  len : vec_len l.into + length (ring_from l.next l.room (l.room - l._step) l.position) ≤ vec_capacity l.into;
  capacity : vec_capacity l.into ≡ vec_capacity l.initial.into;
}
