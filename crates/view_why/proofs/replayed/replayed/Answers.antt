use Rattle.std.proofs.Common.{[], subst}
use Rattle.rt_model.specs.Group.{Group}
use Rattle.rt_model.specs.Histories.{past_from, past_of}
use Rattle.view_replay.specs.Replays.{IsAt}
use Rattle.view_why.proofs.replayed.replayed.Goals as goal

pub returns-clause-at : goal.returns-clause-at
unfolding past_of
returns-clause-at c = subst (λ (g : Group). IsAt c.take.new.replay (past_from g [] c.args.entries.now)) c.in_ok-replay.ensures.group (c.take.ensures.at [] c.in_ok-replay.ensures.opened)
