use Rattle.std.proofs.Common.{ap, ◌∙◌}
use Rattle.rt_task.specs.declared.Parts.{Parts}
use Rattle.rt_model.specs.Situations.{next_act}
use Rattle.rt_plays.specs.Plays.{group_with}
use Rattle.rank_afresh.specs.Standing.{group_of}
use Rattle.trace_course.proofs.turns.next_of.Goals as goal

pub returns : goal.returns
returns c = λ past at.
    c.next_act.ensures c.args.afresh.now.group
    ∙ ap (λ (p : Parts). next_act (group_with p c.args.afresh.now.group) c.situation.result) c.requires.setup
    ∙ ap (next_act (group_of c.args.afresh.now)) (c.situation.ensures past at)
