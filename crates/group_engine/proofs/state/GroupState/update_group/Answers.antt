use Rattle.std.proofs.Common.{◌≡◌, ◌<◌, ◌-◌, suc, length, get_or, add-one, arith}
use Rattle.std.proofs.lemmas.List.{get_or_read}
use Rattle.rt_model.specs.Group.{no_task}
use Rattle.group_engine.proofs.GroupInTurn.{next_group, next-can, to-come-first, to-come-in, to-come-out}
use Rattle.group_engine.proofs.state.GroupState.update_group.Goals as goal
use Rattle.group_engine.proofs.state.GroupState.update_group.Goals.{After-as_slice, then-as_slice-home, else-as_slice-home}

within : (c : After-as_slice) → c.loop-task.task-index < length c.args.parts.now.tasks
within c = rw c.as_slice-task-items.ensures at c.loop-task-test.true

-- the task that is looked at
row : (c : After-as_slice) → c.task-item.result ≡ get_or c.args.parts.now.tasks c.loop-task.task-index no_task
row c =
    let read = rw c.as_slice-task-items.ensures at c.task-item.is in
    get_or_read c.args.parts.now.tasks c.loop-task.task-index c.task-item.result (within c) read no_task

pub update-requires : goal.update-requires
update-requires c =
    let looked = (goal.at.update-requires c).After-as_slice in
    let p = c.args.parts.now in
    let i = c.loop-task.task-index in
    let is : next_group p i ≡ c.args.group.0 = rw (c.as_slice.ensures, row looked) at c.if-as_slice-home.true in
    let can = next-can p c.args.group.0 i c.args.self.now c.loop-task.self c.loop-task.invariant (within looked) is in
    rw (row looked, (let place : suc i - 1 ≡ i = omega arith in rw place at can.1)) can.0

pub loop-task-init : goal.loop-task-init
loop-task-init c = to-come-first c.args.parts.now c.args.group.0 c.args.self.now c.requires.can

pub loop-task-preserved : goal.loop-task-preserved
loop-task-preserved c =
    let looked = (goal.at.loop-task-preserved c).After-as_slice in
    let p = c.args.parts.now in
    let i = c.loop-task.task-index in
    rw add-one
    (elim c.if-as_slice-home.branch [
      | then-as_slice-home w ↦
          let is : next_group p i ≡ c.args.group.0 = rw (c.as_slice.ensures, row looked) at w.if-as_slice-home.true in
          let can = next-can p c.args.group.0 i c.args.self.now c.loop-task.self c.loop-task.invariant (within looked) is in
          rw (w.self-is, w.update.ensures, row looked, (let place : suc i - 1 ≡ i = omega arith in rw place at can.1))
          (to-come-in p c.args.group.0 i c.args.self.now c.loop-task.self c.loop-task.invariant (within looked) is)
      | else-as_slice-home w ↦
          let other = rw (c.as_slice.ensures, row looked) at w.if-as_slice-home.false in
          rw w.self-is (to-come-out p c.args.group.0 i c.args.self.now c.loop-task.self c.loop-task.invariant (within looked) other)
    ])
