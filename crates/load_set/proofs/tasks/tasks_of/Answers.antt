use Rattle.std.proofs.Common.{◌≡◌, ◌∙◌, ◌+◌, ap}
use Rattle.load_set.specs.Draws.{draw_from}
use Rattle.load_set.specs.Load.{task_of, tasks_from}
use Rattle.load_set.proofs.TaskLaws.{all-there, one-more}
use Rattle.load_set.proofs.tasks.tasks_of.Goals as goal

pub loop-i-preserved : goal.loop-i-preserved
loop-i-preserved c =
    let made : c.in_ok-task_of.field-0 ≡ task_of (c.loop-i.i + 1) (draw_from c.loop-i.at) = c.in_ok-task_of.ensures ∙ ap (task_of (c.loop-i.i + 1)) c.draw-after.ensures.numbers in
    rw c.in_ok-push.ensures.items
    (one-more c.loop-i.tasks.items c.in_ok-task_of.field-0 (tasks_from c.args.count 1 c.args.state) c.args.count c.loop-i.i c.loop-i.at c.draw-after.result.1 c.loop-i-test.true made c.draw-after.ensures.state c.loop-i.invariant)

pub returns : goal.returns
returns c = all-there c.loop-i.tasks.items (tasks_from c.args.count 1 c.args.state) c.args.count c.loop-i.i c.loop-i.at c.loop-i-test.false c.loop-i.invariant
