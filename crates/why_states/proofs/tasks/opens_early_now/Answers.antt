use Rattle.std.proofs.Common.{◌≡◌, ◌∙◌, true, refl, sym, ap, subst}
use Rattle.rt_rules.specs.Numbers.{has}
use Rattle.rt_model.specs.Group.{Group, tasks}
use Rattle.rt_model.specs.Releases.{is_released, opens_early, release}
use Rattle.why_states.proofs.Facts.{early-told}
use Rattle.why_states.specs.States.{IsAt, group_of}
use Rattle.why_states.proofs.tasks.opens_early_now.Goals as goal

pub done-done-requires : goal.done-done-requires
done-done-requires c = subst (λ (g : Group). has c.args.task.0 (tasks g) ≡ true) (sym c.requires.at.1.group_is) c.requires.task

pub release-release-requires : goal.release-release-requires
release-release-requires c = subst (λ (g : Group). has c.args.task.0 (tasks g) ≡ true) (sym c.requires.at.1.group_is) c.requires.task

pub returns : goal.returns
returns c = λ past is.
    let released = c.release-release.ensures.release past is.at ∙ ap (λ (x : Group). release x c.args.task.0 past) is.group_is in
    c.is_open_early.ensures ∙ early-told (group_of c.args.state.now) c.args.task.0 past c.is_early.result c.done-done.result c.args.state.now.clock.0 c.release-release.result c.is_early.ensures (c.done-done.ensures.shown past is.at) is.clock_is released
