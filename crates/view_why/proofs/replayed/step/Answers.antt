use Rattle.std.proofs.Common.{subst}
use Rattle.rt_model.specs.Group.{Group}
use Rattle.rt_model.specs.Histories.{after}
use Rattle.view_replay.specs.Replays.{IsAt}
use Rattle.view_why.proofs.replayed.step.Goals as goal

pub returns-clause-at : goal.returns-clause-at
returns-clause-at c = λ past is. subst (λ (g : Group). IsAt c.act.new.self (after g c.args.step past)) c.clock.ensures.group (c.act.ensures.at past (c.clock.ensures.moved past is))
