use Rattle.std.proofs.Common.{◌≡◌, ◌∙◌, ◌++◌, true, refl, sym, ap, subst, append_assoc, append-nil}
use Rattle.std.proofs.lemmas.Result.{on_ok_weaker}
use Rattle.rt_rules.specs.Numbers.{has}
use Rattle.rt_model.specs.Group.{Group, tasks}
use Rattle.rt_model.specs.Blocking.{is_blocked}
use Rattle.rt_model.specs.EffectiveKeys.{waits_for}
use Rattle.why_texts.specs.Standings.{waiting_words}
use Rattle.why_states.specs.States.{IsAt, group_of}
use Rattle.why_states.proofs.standings.put_waiting.Goals as goal

pub blocked-requires : goal.blocked-requires
blocked-requires c = record {
  task = subst (λ (g : Group). has c.args.task.0 (tasks g) ≡ true) (sym c.requires.at.1.group_is) c.requires.task;
  at = (c.requires.at.0, c.requires.at.1.at);
}

pub waits_for-requires : goal.waits_for-requires
waits_for-requires c = subst (λ (g : Group). has c.args.task.0 (tasks g) ≡ true) (sym c.requires.at.1.group_is) c.requires.task

pub returns : goal.returns
returns c =
    on_ok_weaker c.put_with.result (λ put past is.
    let g = group_of c.args.state.now in
    let words = c.waiting_word.ensures g ∙ ap (waiting_words g) (c.blocked.ensures past is.at ∙ ap (λ (x : Group). is_blocked x c.args.task.0 past) is.group_is) in
    let kept = c.waits_for.ensures past is.at ∙ ap (λ (x : Group). waits_for x c.args.task.0 past) is.group_is in
    rw (← words, ← kept, put past is, c.in_ok-put_task_or_dash.ensures, c.in_ok-put-2.ensures, c.in_ok-put_sem_or_dash.ensures, c.in_ok-put.ensures) (simp (append_assoc, append-nil))) c.put_with.ensures
