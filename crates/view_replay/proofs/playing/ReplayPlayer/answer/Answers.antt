use Rattle.std.proofs.Common.{◌∙◌, ap}
use Rattle.rt_model.specs.Group.{Group}
use Rattle.rt_model.specs.Histories.{reply_to}
use Rattle.view_acts.specs.ShownActs.{act_shown}
use Rattle.view_replay.specs.Replays.{group_of}
use Rattle.view_replay.proofs.Acting.{reply-of}
use Rattle.view_replay.proofs.playing.ReplayPlayer.answer.Goals as goal

pub returns-clause-reply : goal.returns-clause-reply
returns-clause-reply c = λ g past can.
    reply-of (group_of c.args.self.now) (act_shown c.act.result) c.args.step past (c.act.ensures.act past can.moved_to.1)
    ∙ ap (λ (x : Group). reply_to x c.args.step past) can.moved_to.0
