use Rattle.std.proofs.Common.{◌<◌, ◌∙◌, length, subst, sym, arith}
use Rattle.rt_base.specs.TaskNos.{numbers_of_tasks}
use Rattle.sem_laws.specs.KeptKeys.{key_at}
use Rattle.prio_inherit.specs.Local.{IsTop}
use Rattle.prio_inherit.specs.Waits.{base_of, next_of}
use Rattle.prio_inherit.proofs.Counting.{top-alone}
use Rattle.prio_inherit.proofs.Settling.{length-numbers, top-raised, top-stayed}
use Rattle.prio_inherit.proofs.keys.top_key.Goals as goal
use Rattle.prio_inherit.proofs.keys.top_key.Goals.{then-raises, else-raises}

pub loop-u-preserved : goal.loop-u-preserved
loop-u-preserved c =
    elim c.if-raises.branch [
      | then-raises w ↦ rw w.best-is (top-raised c.args.nexts.now c.loop-u.u (key_at c.args.keys.now) (base_of c.args.bases.now c.args.task.0) c.args.task.0 c.loop-u.best c.loop-u.invariant (sym c.raises.ensures ∙ w.if-raises.true))
      | else-raises w ↦ rw w.best-is (top-stayed c.args.nexts.now c.loop-u.u (key_at c.args.keys.now) (base_of c.args.bases.now c.args.task.0) c.args.task.0 c.loop-u.best c.loop-u.invariant (sym c.raises.ensures ∙ w.if-raises.false))
    ]

pub returns-then-counts-task-eq0 : goal.returns-then-counts-task-eq0
returns-then-counts-task-eq0 c =
    let below : c.args.task.0 < length (numbers_of_tasks c.args.nexts.now) = omega (arith, c.requires.below, length-numbers c.args.nexts.now) in
    subst (IsTop (length c.args.nexts.now) (next_of (numbers_of_tasks c.args.nexts.now)) (key_at c.args.keys.now) (base_of c.args.bases.now c.args.task.0) c.args.task.0) (sym c.base_in-best.ensures) (top-alone (numbers_of_tasks c.args.nexts.now) c.args.counts.now _ _ _ c.args.task.0 c.requires.counts below c.if-counts-task-eq0.true)
