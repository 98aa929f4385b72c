use Rattle.std.proofs.Common.{◌≡◌, ◌∙◌, ◌++◌, true, false, sym, ap, subst}
use Rattle.std.proofs.lemmas.Result.{on_ok_weaker}
use Rattle.rt_rules.specs.Numbers.{has}
use Rattle.rt_model.specs.Group.{Group, tasks}
use Rattle.rt_model.specs.Holders.{awaits}
use Rattle.rt_model.specs.Sleep.{sleeps, wakes}
use Rattle.rt_laws.proofs.semaphores.Waiting.{awaits-waits}
use Rattle.why_texts.specs.Standings.{standing}
use Rattle.why_states.specs.States.{IsAt, group_of}
use Rattle.why_states.proofs.standings.put_standing.Goals as goal

pub sleeps-requires : goal.sleeps-requires
sleeps-requires c = subst (λ (g : Group). has c.args.task.0 (tasks g) ≡ true) (sym c.requires.at.1.group_is) c.requires.task

pub wakes-requires : goal.wakes-requires
wakes-requires c = subst (λ (g : Group). has c.args.task.0 (tasks g) ≡ true) (sym c.requires.at.1.group_is) c.requires.task

pub waits-requires : goal.waits-requires
waits-requires c = subst (λ (g : Group). has c.args.task.0 (tasks g) ≡ true) (sym c.requires.at.1.group_is) c.requires.task

pub put_waiting-requires-clause-sem : goal.put_waiting-requires-clause-sem
put_waiting-requires-clause-sem c =
    let past = c.requires.at.0 in
    let is = c.requires.at.1 in
    (awaits-waits (group_of c.args.state.now) c.args.task.0 c.in-Some.sem.0 past (sym (c.in-Some.ensures past is.at ∙ ap (λ (x : Group). awaits x c.args.task.0 past) is.group_is))).0

pub returns-then-sleeps : goal.returns-then-sleeps
unfolding standing
returns-then-sleeps c =
    on_ok_weaker c.put_sleeping.result (λ put past is.
    let told = sym (c.sleeps.ensures past is.at) ∙ c.if-sleeps.true in
    let wakes_is = c.wakes.ensures past is.at in
    rw (told, ← wakes_is) put) c.put_sleeping.ensures

pub returns-in-Some : goal.returns-in-Some
unfolding standing
returns-in-Some c =
    on_ok_weaker c.put_waiting.result (λ put past is.
    let told = sym (c.sleeps.ensures past is.at) ∙ c.if-sleeps.false in
    let awaits_is = c.in-Some.ensures past is.at ∙ ap (λ (x : Group). awaits x c.args.task.0 past) is.group_is in
    rw (told, ← awaits_is) (put past is)) c.put_waiting.ensures

pub returns-in-None : goal.returns-in-None
unfolding standing
returns-in-None c =
    on_ok_weaker c.put_awake.result (λ put past is.
    let told = sym (c.sleeps.ensures past is.at) ∙ c.if-sleeps.false in
    let awaits_is = c.in-None.ensures past is.at ∙ ap (λ (x : Group). awaits x c.args.task.0 past) is.group_is in
    rw (told, ← awaits_is) (put past is)) c.put_awake.ensures
