use Rattle.std.proofs.Common.{◌≡◌, ◌∙◌, ◌++◌, ◌&&◌, ℕ, sym, ap, arith}
use Rattle.std.specs.Prelude.{filter}
use Rattle.rt_rules.specs.Numbers.{is}
use Rattle.rt_model.specs.Holders.{awaits}
use Rattle.rt_model.specs.Group.{tasks}
use Rattle.why_texts.specs.SemLines.{waiting_for}
use Rattle.rt_base.specs.declared.TaskNo.{TaskNo}
use Rattle.why_states.proofs.Rows.{at-among, kept-all, kept-next, left-next}
use Rattle.why_states.specs.States.{IsAt, group_of}
use Rattle.why_states.proofs.sems.waiting_for.Goals.{then-waits_at+in_ok-push, else-waits_at}
use Rattle.why_states.proofs.sems.waiting_for.Goals as goal

pub waits_at-requires-clause-task : goal.waits_at-requires-clause-task
waits_at-requires-clause-task c = at-among (λ (x : TaskNo). x.0) c.args.state.now.tasks.now c.loop-task.task-index (record { 0 = 0 }) (tasks (group_of c.args.state.now)) c.loop-task-test.true c.requires.1.tasks_are

pub loop-task-preserved : goal.loop-task-preserved
loop-task-preserved c = λ past at.
    let xs = c.args.state.now.tasks.now in
    let i = c.loop-task.task-index in
    let test = λ (n : ℕ). is c.args.sem.0 (awaits (group_of c.args.state.now) n past) in
    let told = c.waits_at.ensures past at in
    elim c.if-waits_at.branch [
      | then-waits_at+in_ok-push w ↦ kept-next (λ (x : TaskNo). x.0) test xs i (record { 0 = 0 }) _ c.loop-task.waiting.items c.if-waits_at.waiting.items c.loop-task-test.true (sym told ∙ w.if-waits_at.true) (ap (λ v. v.items) w.waiting-is ∙ w.in_ok-push.ensures.items) (c.loop-task.invariant past at)
      | else-waits_at w ↦ left-next (λ (x : TaskNo). x.0) test xs i (record { 0 = 0 }) _ c.loop-task.waiting.items c.if-waits_at.waiting.items c.loop-task-test.true (sym told ∙ w.if-waits_at.false) (ap (λ v. v.items) w.waiting-is) (c.loop-task.invariant past at)
    ]

pub returns : goal.returns
unfolding waiting_for
returns c = λ past at.
    let test = λ (n : ℕ). is c.args.sem.0 (awaits (group_of c.args.state.now) n past) in
    kept-all (λ (x : TaskNo). x.0) test c.args.state.now.tasks.now c.loop-task.task-index _ c.loop-task.waiting.items (omega (arith, c.loop-task-test.false)) (c.loop-task.invariant past at)
    ∙ ap (λ ns. filter test ns) at.tasks_are
