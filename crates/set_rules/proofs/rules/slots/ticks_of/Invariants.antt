use Rattle.std.proofs.Common.{◌≡◌, ◌≤◌, drop, take}
use Rattle.rt_task.specs.SlotRules.{slots_follow, slots_length}
use Rattle.set_rules.proofs.rules.slots.ticks_of.Given as goal

-- what is left follows where all does; the ticks so far, which end where the last slot does or before
abbrev pub invariant-loop-slot : goal.invariant-loop-slot
invariant-loop-slot l = record {
  rest : slots_follow l.start l.cycle (drop l.slot-index l.slots) ≡ slots_follow 0 l.cycle l.slots;
  so_far : l.ticks ≡ slots_length (take l.slot-index l.slots);
  within : l.ticks ≤ l.start;
}
