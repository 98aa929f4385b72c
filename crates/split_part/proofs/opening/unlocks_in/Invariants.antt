use Rattle.std.proofs.Common.{◌≡◌, ◌≤◌, take}
use Rattle.rt_plays.specs.Scripts.{script}
use Rattle.split_counts.specs.Room.{is_unlock}
use Rattle.split_laws.specs.Counts.{count_steps}
use Rattle.split_part.proofs.opening.unlocks_in.Given as goal

-- those so far are counted
abbrev pub invariant-loop-step : goal.invariant-loop-step
invariant-loop-step l = record {
  count_is : l.count ≡ count_steps is_unlock (script (take l.step-index l.steps) l.cpu.0);
  few : l.count ≤ l.step-index;
}
