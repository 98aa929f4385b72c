use Rattle.std.proofs.Common.{◌≡◌, ◌<◌, ℕ, length, get_or}
use Rattle.rt_plays.specs.Plays.{group_with}
use Rattle.rt_plays.specs.Groups.{GroupHistory}
use Rattle.set_plays.specs.declared.group_steps.GroupSteps.{GroupSteps}
use Rattle.set_plays.specs.GroupSteps.{AreStepsIn, group_told}
use Rattle.trace_writer.proofs.engines.steps_again.Given as goal

-- the steps of the groups so far are theirs, and come to their histories
abbrev pub invariant-loop-group : goal.invariant-loop-group
invariant-loop-group l = record {
  count : length l.steps.items ≡ l.group-index;
  theirs : (n : ℕ) (d : GroupSteps) → n < length l.steps.items → AreStepsIn (group_with l.setup n) (get_or l.steps.items n d);
  told : (n : ℕ) (d : GroupSteps) (h : GroupHistory) → n < length l.steps.items → group_told l.setup n (get_or l.steps.items n d) ≡ (get_or l.groups n h).entries;
}
