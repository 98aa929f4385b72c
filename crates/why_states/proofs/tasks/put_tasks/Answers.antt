use Rattle.std.proofs.Common.{◌≡◌, ◌∙◌, ◌++◌, ap, arith}
use Rattle.std.specs.Prelude.{flat_map}
use Rattle.rt_model.specs.Group.{tasks}
use Rattle.why_texts.specs.TaskLines.{task_line}
use Rattle.rt_base.specs.declared.TaskNo.{TaskNo}
use Rattle.why_states.proofs.Rows.{at-among, line-all, line-next}
use Rattle.why_states.specs.States.{IsAt, group_of}
use Rattle.why_states.proofs.tasks.put_tasks.Goals as goal

pub put_task-requires-clause-task : goal.put_task-requires-clause-task
put_task-requires-clause-task c = at-among (λ (x : TaskNo). x.0) c.args.state.now.tasks.now c.loop-task.task-index (record { 0 = 0 }) (tasks (group_of c.args.state.now)) c.loop-task-test.true c.requires.1.tasks_are

pub loop-task-preserved : goal.loop-task-preserved
loop-task-preserved c = λ past is.
    line-next (λ n. task_line (group_of c.args.state.now) n past) (λ (x : TaskNo). x.0) c.args.state.now.tasks.now c.loop-task.task-index (record { 0 = 0 }) _ c.loop-task.out.items c.put_task.new.out.items c.loop-task-test.true (c.loop-task.invariant past is) (c.in_ok-put_task.ensures past is)

pub returns : goal.returns
returns c = λ past is.
    line-all (λ n. task_line (group_of c.args.state.now) n past) (λ (x : TaskNo). x.0) c.args.state.now.tasks.now c.loop-task.task-index _ c.loop-task.out.items (omega (arith, c.loop-task-test.false)) (c.loop-task.invariant past is)
    ∙ ap (λ ns. c.args.out.now.items ++ flat_map (λ n. task_line (group_of c.args.state.now) n past) ns) is.tasks_are
