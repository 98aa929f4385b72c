use Rattle.std.proofs.Common.{◌≡◌, ◌∙◌, ◌++◌, ◌∷◌, [], ℕ, Bool, List, true, sym, ap, subst, append_assoc}
use Rattle.std.proofs.lemmas.Result.{on_ok_weaker}
use Rattle.rt_rules.specs.Numbers.{has}
use Rattle.rt_model.specs.BaseKeys.{base_key}
use Rattle.rt_model.specs.EffectiveKeys.{effective_key}
use Rattle.rt_model.specs.Group.{Group, task, tasks}
use Rattle.rt_model.specs.Jobs.{used}
use Rattle.rt_model.specs.Holders.{holds}
use Rattle.rt_model.specs.NonPreemptive.{non_preemptive}
use Rattle.rt_model.specs.Releases.{deadline, opens_early, release}
use Rattle.std.specs.List.{concat}
use Rattle.std.specs.Prelude.{codes}
use Rattle.why_texts.specs.Standings.{standing}
use Rattle.why_texts.specs.TaskLines.{holds_piece, job_piece, where_so}
use Rattle.why_lines.specs.declared.jobs.JobTimes.{JobTimes}
use Rattle.why_lines.specs.JobsShown.{keys_shown, times_shown, used_shown}
use Rattle.why_lines.specs.SemNos.{sem_numbers}
use Rattle.why_states.specs.States.{IsAt, group_of}
use Rattle.why_states.proofs.tasks.put_job.Goals as goal

pub held-requires : goal.held-requires
held-requires c = subst (λ (g : Group). has c.args.task.0 (tasks g) ≡ true) (sym c.requires.at.1.group_is) c.requires.task

pub non_preemptive-requires : goal.non_preemptive-requires
non_preemptive-requires c = subst (λ (g : Group). has c.args.task.0 (tasks g) ≡ true) (sym c.requires.at.1.group_is) c.requires.task

pub returns : goal.returns
unfolding job_piece keys_shown times_shown used_shown
returns c =
    on_ok_weaker c.put_job_facts.result (λ put past is.
    let times_are = c.times_of.ensures past is in
    let early_is = c.opens_early_now.ensures past is in
    let np_is = c.non_preemptive.ensures past is.at in
    let held_are = ap sem_numbers c.as_slice.ensures.value ∙ c.in_ok-held.ensures past is.at ∙ ap (λ (x : Group). holds x c.args.task.0 past) is.group_is in
    let g = group_of c.args.state.now in
    let facts = λ (j : JobTimes) (e n : Bool) (h : List ℕ). concat (keys_shown j ∷ times_shown j ∷ used_shown j ∷ where_so e (codes ", early") ∷ where_so n (codes ", non-preemptive") ∷ holds_piece g h ∷ []) in
    let t = c.args.task.0 in
    let times : JobTimes = record { base = base_key g t past; key = effective_key g t past; release = release g t past; deadline = deadline g t past; used = used t past; cost = (task g t).cost } in
    let all = facts times (opens_early g t past) (non_preemptive t past) (holds g t past) in
    let mid = c.put_standing.new.out.items in
    let j = c.times_of.result in
    let e = c.opens_early_now.result in
    let n = c.non_preemptive.result in
    put ∙ ap (λ h. mid ++ facts j e n h) held_are ∙ ap (λ b. mid ++ facts j e b (holds g c.args.task.0 past)) np_is ∙ ap (λ b. mid ++ facts j b (non_preemptive c.args.task.0 past) (holds g c.args.task.0 past)) early_is
    ∙ ap (λ x. mid ++ facts x (opens_early g c.args.task.0 past) (non_preemptive c.args.task.0 past) (holds g c.args.task.0 past)) times_are
    ∙ ap (λ ys. ys ++ all) (c.in_ok-put_standing.ensures past is) ∙ append_assoc c.args.out.now.items (standing g t past) all) c.put_job_facts.ensures
