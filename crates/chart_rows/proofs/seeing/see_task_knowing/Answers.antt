use Rattle.std.proofs.Common.{◌≡◌, ◌∙◌, ◌<◌, true, ap, subst, sym, arith}
use Rattle.std.specs.Prelude.{nat_lt, slice_index_or}
use Rattle.std.proofs.lemmas.Bool.Decides.{nat_tests}
use Rattle.rt_model.specs.Past.{now}
use Rattle.rank_afresh.specs.Standing.{group_of}
use Rattle.chart_rows.specs.AwayTasks.{AreAway}
use Rattle.chart_rows.specs.Looks.{state_doing}
use Rattle.chart_rows.specs.Rows.{TaskKept}
use Rattle.chart_rows.proofs.AwayLaws.{away-still, shown-away}
use Rattle.chart_rows.proofs.seeing.see_task_knowing.Goals as goal
use Rattle.chart_rows.proofs.seeing.see_task_knowing.Goals.{else-shows_away, then-shows_away}

pub returns-then-has-clause-row : goal.returns-then-has-clause-row
returns-then-has-clause-row c = λ past at clock ready away.
    let told : nat_lt (now past) (slice_index_or c.args.away.now c.args.row.now.task 0) ≡ true = (λ i. nat_lt (sym clock i) (slice_index_or c.args.away.now (sym c.task-task.ensures i) 0)) ∙ sym c.has.ensures ∙ c.if-has.true in
    let low : now past < slice_index_or c.args.away.now c.args.row.now.task 0 = grind (arith, nat_tests, told) in
    away-still (group_of c.args.afresh.now) past c.args.away.now c.args.row.now away low

pub returns-clause-away : goal.returns-clause-away
returns-clause-away c = λ past at ready away.
    let g = group_of c.args.afresh.now in
    let seen = c.in_ok-see_task_with.ensures.row past at ready in
    elim c.if-shows_away.branch [
      | then-shows_away w ↦
          (let shown = shown-away g past c.args.row.now c.see_task_with.new.row seen (ap (λ (k : TaskKept). k.kept.doing) (sym c.row.view_is) ∙ c.shows_away.ensures w.if-shows_away.true) in
          subst (AreAway g past) (sym w.away-is) (w.learn.ensures past at (ap (λ t. state_doing g t past) c.task-task.ensures ∙ shown) away))
      | else-shows_away w ↦ subst (AreAway g past) (sym w.away-is) away
    ]
