use Rattle.std.proofs.Common.{◌≡◌, ◌∙◌, List, ap, length, subst, sym, arith}
use Rattle.std.proofs.lemmas.List.{with_items_is}
use Rattle.view_acts.specs.ShownActs.{act_shown}
use Rattle.chart_rows.specs.ReadyJobs.{untouched}
use Rattle.chart_rows.specs.Rows.{RowsKept, TaskKept}
use Rattle.span_feed.specs.Lane.{TaskLane}
use Rattle.span_feed.specs.Still.{AreRested}
use Rattle.span_feed.proofs.waking.wake_touched.Goals as goal

pub returns-clause-rested : goal.returns-clause-rested
returns-clause-rested c = λ js rested.
    let rows = c.as_slice.ensures.value ∙ ap (λ (v : RowsKept). v.tasks) c.rows.view_is in
    let long : length c.wake_tasks.new.lanes ≡ c.args.lanes.now.tasks.len = omega (arith, c.wake_tasks.auto.lanes, ap length c.as_mut_slice.ensures.value, c.args.lanes.now.tasks.ok.0) in
    let before = subst (λ (x : List TaskLane × List TaskKept). AreRested js x.0 x.1) (λ i. (sym c.as_mut_slice.ensures.value i, sym rows i)) rested in
    let new = with_items_is c.args.lanes.now.tasks c.wake_tasks.new.lanes long in
    subst (λ (x : List TaskLane × List TaskKept). AreRested (untouched (act_shown c.args.act.now) js) x.0 x.1) (λ i. (sym new i, rows i)) (c.wake_tasks.ensures.rested js before)
