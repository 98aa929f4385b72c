use Rattle.std.proofs.Common.{subst, sym}
use Rattle.rank_afresh.specs.Standing.{group_of}
use Rattle.chart_rows.specs.AwayTasks.{AreAway, IsNotBefore}
use Rattle.chart_rows.proofs.AwayLaws.{away-learnt}
use Rattle.chart_rows.proofs.away_tasks.AwayTasks.learn.Goals as goal

pub returns : goal.returns
returns c = λ past at away all.
    let g = group_of c.args.afresh.now in
    let tick = c.not_before-tick.result in
    subst (AreAway g past) (sym c.set.ensures) (away-learnt g past c.args.task.0 c.args.self.now tick (subst (IsNotBefore tick) (c.release.ensures.release past at) c.not_before-tick.ensures) away all)
