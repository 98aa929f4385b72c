use Rattle.std.proofs.Common.{◌≡◌}
use Rattle.group_engine.specs.inside.Touching.{updated}
use Rattle.group_engine.proofs.Updating.{updated-taken}
use Rattle.group_engine.proofs.DueInTurn.{in-turn-all, in-turn-fewer, in-turn-more}
use Rattle.group_engine.proofs.state.GroupState.update_due.Goals as goal
use Rattle.group_engine.proofs.state.GroupState.update_due.Goals.{After-update}

-- the task that was due is brought up
now : (c : After-update) → c.update.new.self ≡ updated c.args.parts.now c.in-Some.task.0 c.loop-task.self
now c =
    rw (c.update.ensures, c.in-Some.ensures.taken)
    (updated-taken c.args.parts.now c.in-Some.task.0 c.loop-task.self)

pub loop-task-smaller : goal.loop-task-smaller
loop-task-smaller c =
    let next = rw c.clock.ensures at c.in-Some.ensures.due in
    rw (now (goal.at.loop-task-smaller c).After-update, c.clock.ensures)
    (in-turn-fewer c.args.parts.now c.args.self.now c.loop-task.self c.in-Some.task.0 c.loop-task.invariant next)

pub loop-task-preserved : goal.loop-task-preserved
loop-task-preserved c =
    let next = rw c.clock.ensures at c.in-Some.ensures.due in
    rw (now (goal.at.loop-task-preserved c).After-update)
    (in-turn-more c.args.parts.now c.args.self.now c.loop-task.self c.in-Some.task.0 c.loop-task.invariant next)

pub returns : goal.returns
returns c =
    let none = rw c.clock.ensures at c.in_default.ensures.none in
    rw c.in_default.ensures.stays
    (in-turn-all c.args.parts.now c.args.self.now c.loop-task.self c.loop-task.invariant none)
