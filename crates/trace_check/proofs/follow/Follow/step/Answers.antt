use Rattle.rt_model.specs.Histories.{past_of}
use Rattle.trace_check.proofs.follow.Follow.step.Goals as goal

pub move_clock-requires-clause-at : goal.move_clock-requires-clause-at
move_clock-requires-clause-at g c = let at = c.requires.0 in (at.group, past_of at.group at.entries, c.requires.1.following.at)
