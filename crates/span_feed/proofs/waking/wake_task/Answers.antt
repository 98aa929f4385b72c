use Rattle.std.proofs.Common.{◌∙◌, ap, set, subst, sym}
use Rattle.std.specs.Prelude.{Option}
use Rattle.rt_base.specs.TaskNos.{number_of_task}
use Rattle.rt_base.specs.declared.TaskNo.{TaskNo}
use Rattle.span_feed.specs.Lane.{touched}
use Rattle.span_feed.specs.inside.Woken.{AreWoken}
use Rattle.span_feed.proofs.Touching.{one-woken, woken-tracks}
use Rattle.span_feed.proofs.waking.wake_task.Goals as goal

pub returns-in-Some-position_of-clause-tracks : goal.returns-in-Some-position_of-clause-tracks
returns-in-Some-position_of-clause-tracks c = λ n. woken-tracks n c.args.lanes.now c.in-Some-position_of.position c.index-lanes-position.result c.wake.new.self c.index-lanes-position.is (c.wake.ensures ∙ ap touched (sym c.index-lanes-position.is))

pub returns-in-Some-position_of-clause-woken : goal.returns-in-Some-position_of-clause-woken
returns-in-Some-position_of-clause-woken c =
    let here = c.in-Some-position_of.ensures in
    let rows = c.args.rows.now in
    let lanes = c.args.lanes.now in
    subst (λ (o : Option TaskNo). AreWoken (number_of_task o) rows lanes (set lanes c.in-Some-position_of.position c.wake.new.self)) (sym c.in-Some.is)
    (one-woken rows lanes c.in-Some.task.0 c.in-Some-position_of.position c.index-lanes-position.result c.wake.new.self c.requires.long c.requires.once here.0 here.1 (c.wake.ensures ∙ ap touched (sym c.index-lanes-position.is)))
