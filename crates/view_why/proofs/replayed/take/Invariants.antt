use Rattle.std.proofs.Common.{◌≡◌, ◌+◌, ◌<◌, drop, length}
use Rattle.rt_model.specs.Histories.{past_from}
use Rattle.rt_model.specs.Past.{Past}
use Rattle.view_replay.specs.Replays.{IsAt, group_of, spare}
use Rattle.view_why.proofs.replayed.take.Given as goal

-- the steps of the entries so far were taken
abbrev pub invariant-loop-entry : goal.invariant-loop-entry
invariant-loop-entry l = record {
  same_group : group_of l.replay ≡ group_of l.initial.replay;
  room : length l.entries < spare l.replay + l.entry-index;
  at : (past : Past) → IsAt l.initial.replay past → (now : Past) × IsAt l.replay now × (past_from (group_of l.initial.replay) now (drop l.entry-index l.entries) ≡ past_from (group_of l.initial.replay) past l.entries);
}
