use Rattle.std.proofs.Common.{◌≡◌, ◌∙◌, ◌+◌, true, sym, ap, subst, arith}
use Rattle.std.specs.Prelude.{unwrap_or}
use Rattle.rt_rules.specs.Numbers.{has}
use Rattle.rt_model.specs.BaseKeys.{base_key}
use Rattle.rt_model.specs.EffectiveKeys.{effective_key}
use Rattle.rt_model.specs.Group.{Group, task, tasks}
use Rattle.rt_model.specs.Releases.{deadline, release}
use Rattle.why_states.proofs.Facts.{deadline-low}
use Rattle.why_states.specs.States.{IsAt, group_of}
use Rattle.why_states.proofs.tasks.times_of.Goals as goal

pub release-release-requires : goal.release-release-requires
release-release-requires c = subst (λ (g : Group). has c.args.task.0 (tasks g) ≡ true) (sym c.requires.at.1.group_is) c.requires.task

pub base_key-requires : goal.base_key-requires
base_key-requires c = subst (λ (g : Group). has c.args.task.0 (tasks g) ≡ true) (sym c.requires.at.1.group_is) c.requires.task

pub effective_key-requires : goal.effective_key-requires
effective_key-requires c = subst (λ (g : Group). has c.args.task.0 (tasks g) ≡ true) (sym c.requires.at.1.group_is) c.requires.task

pub used-requires : goal.used-requires
used-requires c = subst (λ (g : Group). has c.args.task.0 (tasks g) ≡ true) (sym c.requires.at.1.group_is) c.requires.task

pub deadline_of-deadline-requires-clause-relative : goal.deadline_of-deadline-requires-clause-relative
deadline_of-deadline-requires-clause-relative c = omega (arith, deadline-low (group_of c.args.state.now) c.args.task.0 c.requires.at.1.valid c.requires.task, c.limits_of-relative.ensures.deadline)

pub returns : goal.returns
unfolding deadline
returns c = λ past is.
    let g = group_of c.args.state.now in
    let t = c.args.task.0 in
    let release_is = c.release-release.ensures.release past is.at ∙ ap (λ (x : Group). release x t past) is.group_is in
    let deadline_is = c.deadline_of-deadline.ensures ∙ ap (λ o. unwrap_or o 0 + c.limits_of-relative.result.0) release_is ∙ ap (λ n. unwrap_or (release g t past) 0 + n) c.limits_of-relative.ensures.deadline in
    let base_is = c.base_key.ensures past is.at ∙ ap (λ (x : Group). base_key x t past) is.group_is in
    let key_is = c.effective_key.ensures past is.at ∙ ap (λ (x : Group). effective_key x t past) is.group_is in
    λ i. record { base = base_is i; key = key_is i; release = release_is i; deadline = deadline_is i; used = c.used.ensures past is.at i; cost = c.limits_of-relative.ensures.cost i }
