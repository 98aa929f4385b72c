use Rattle.std.proofs.Common.{◌≡◌, ◌<◌, length, get_or, sym, ap, ◌∙◌, subst, arith, eqb-true}
use Rattle.std.specs.Prelude.{◌==◌, List, filter}
use Rattle.rt_base.specs.TaskNos.{numbers}
use Rattle.rt_base.specs.declared.TaskNo.{TaskNo}
use Rattle.rt_task.specs.declared.Task.{Task}
use Rattle.rt_rules.specs.Numbers.{numbers_from}
use Rattle.rt_rules.proofs.BoolLaws.{unless}
use Rattle.rt_rules.proofs.MemberLaws.{equal_self}
use Rattle.rt_model.specs.Group.{home}
use Rattle.rt_plays.proofs.SetLimits.{sets_are_in_limits}
use Rattle.split_rules.specs.Partitions.{group_no, part_group}
use Rattle.split_writer.proofs.Partitions.{home-at, tasks-are, with-own, without-other}
use Rattle.split_writer.proofs.partition.tasks_of.Goals.{then-task-cpu+in_ok-push, else-task-cpu}
use Rattle.split_writer.proofs.partition.tasks_of.Goals as goal

pub overflow_cast-i : goal.overflow_cast-i
overflow_cast-i c =
    let few = (sets_are_in_limits c.args.parts.now c.requires.valid).few_tasks in
    let low = c.loop-i-test.true in
    let all = ap length c.as_slice-task-items.ensures in omega (arith, few, low, all)

pub overflow_add-i : goal.overflow_add-i
overflow_add-i c =
    let few = (sets_are_in_limits c.args.parts.now c.requires.valid).few_tasks in
    let low = c.loop-i-test.true in
    let all = ap length c.as_slice-task-items.ensures in omega (arith, few, low, all)

pub loop-i-preserved : goal.loop-i-preserved
loop-i-preserved c =
    let home_is = home-at c.args.parts.now (group_no c.args.parts.now c.args.cpu.0) c.loop-i.i c.task-item.result
    (subst (λ (xs : List Task). c.loop-i.i < length xs) c.as_slice-task-items.ensures c.loop-i-test.true)
    ∙ sym (ap (λ (x : Task). x.cluster.0) (c.task-item.is ∙ ap (λ (xs : List Task). get_or xs c.loop-i.i c.task-item.result) c.as_slice-task-items.ensures)) in
    elim c.if-task-cpu.branch [
      | then-task-cpu+in_ok-push w ↦
          ap (λ v. numbers v.items) w.tasks-is
          ∙ ap (λ (xs : List TaskNo). numbers xs) (w.in_ok-push.ensures).items
          ∙ with-own (λ t. home (part_group c.args.parts.now c.args.cpu.0) t == c.args.cpu.0) c.loop-i.i c.loop-i.tasks.items c.loop-i.invariant
          (rw (home_is, w.if-task-cpu.true) (equal_self c.args.cpu.0))
      | else-task-cpu w ↦
          ap (λ v. numbers v.items) w.tasks-is
          ∙ without-other (λ t. home (part_group c.args.parts.now c.args.cpu.0) t == c.args.cpu.0) c.loop-i.i c.loop-i.tasks.items c.loop-i.invariant
          (unless _ (λ h. w.if-task-cpu.false (sym home_is ∙ eqb-true _ _ h)))
    ]

pub returns : goal.returns
returns c =
    let at_end = c.loop-i-test.false in let far = c.loop-i.auto.i-end in
    let all : c.loop-i.i ≡ length c.args.parts.now.tasks = let e = ap length c.as_slice-task-items.ensures in omega (arith, at_end, far, e) in
    c.loop-i.invariant ∙ ap (λ n. filter (λ t. home (part_group c.args.parts.now c.args.cpu.0) t == c.args.cpu.0) (numbers_from 1 n)) all
    ∙ sym (tasks-are c.args.parts.now c.args.cpu.0 c.requires)
