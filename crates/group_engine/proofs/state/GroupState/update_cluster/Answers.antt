use Rattle.std.proofs.Common.{◌≡◌, ◌<◌, ◌-◌, suc, length, get_or, add-one, arith}
use Rattle.std.proofs.lemmas.List.{get_or_read}
use Rattle.rt_model.specs.Group.{no_task}
use Rattle.group_engine.proofs.ClusterInTurn.{next_home, next-can, to-test-in, to-test-out}
use Rattle.group_engine.proofs.state.GroupState.update_cluster.Goals as goal
use Rattle.group_engine.proofs.state.GroupState.update_cluster.Goals.{After-task-item, then-task-home, else-task-home}

within : (c : After-task-item) → c.loop-task.task-index < length c.args.parts.now.tasks
within c = rw c.as_slice-task-items.ensures at c.loop-task-test.true

-- the task that is looked at
row : (c : After-task-item) → c.task-item.result ≡ get_or c.args.parts.now.tasks c.loop-task.task-index no_task
row c =
    let read = rw c.as_slice-task-items.ensures at c.task-item.is in
    get_or_read c.args.parts.now.tasks c.loop-task.task-index c.task-item.result (within c) read no_task

pub update-requires : goal.update-requires
update-requires c =
    let seen = (goal.at.update-requires c).After-task-item in
    let p = c.args.parts.now in
    let i = c.loop-task.task-index in
    let is : next_home p i ≡ c.in-Some.home.0 = rw (row seen) at c.if-task-home.true in
    let can = next-can p c.in-Some.home.0 i c.args.self.now c.loop-task.self c.loop-task.invariant (within seen) is in
    rw (row seen, (let place : suc i - 1 ≡ i = omega arith in rw place at can.1)) can.0

pub loop-task-preserved : goal.loop-task-preserved
loop-task-preserved c =
    let seen = (goal.at.loop-task-preserved c).After-task-item in
    let p = c.args.parts.now in
    let i = c.loop-task.task-index in
    rw add-one
    (elim c.if-task-home.branch [
      | then-task-home w ↦
          let is : next_home p i ≡ c.in-Some.home.0 = rw (row seen) at w.if-task-home.true in
          let can = next-can p c.in-Some.home.0 i c.args.self.now c.loop-task.self c.loop-task.invariant (within seen) is in
          rw (w.self-is, w.update.ensures, row seen, (let place : suc i - 1 ≡ i = omega arith in rw place at can.1))
          (to-test-in p c.in-Some.home.0 i c.args.self.now c.loop-task.self c.loop-task.invariant (within seen) is)
      | else-task-home w ↦
          let other = rw (row seen) at w.if-task-home.false in
          rw w.self-is (to-test-out p c.in-Some.home.0 i c.args.self.now c.loop-task.self c.loop-task.invariant (within seen) other)
    ])
