use Rattle.std.proofs.Common.{ℕ, subst}
use Rattle.std.specs.Prelude.{Option}
use Rattle.view_acts.specs.ShownActs.{act_shown}
use Rattle.span_feed.specs.inside.Woken.{AreWoken}
use Rattle.span_feed.proofs.Touching.{touched-rested}
use Rattle.span_feed.proofs.waking.wake_tasks.Goals as goal

pub returns-clause-rested : goal.returns-clause-rested
returns-clause-rested c = λ js rested.
    let rows = c.args.rows.now in
    let woken = c.wake_task.new.lanes in
    let new = c.wake_task-2.new.lanes in
    let second = subst (λ (o : Option ℕ). AreWoken o rows woken new) c.arriving.ensures c.wake_task-2.ensures.woken in
    touched-rested rows c.args.lanes.now woken new (act_shown c.args.act.now) js c.wake_task.ensures.woken second rested
