use Rattle.std.proofs.Common.{◌∙◌, ◌<◌, ap, subst}
use Rattle.std.proofs.lemmas.Result.{on_ok_weaker}
use Rattle.rank_afresh.specs.Standing.{group_of}
use Rattle.chart_rows.specs.Rows.{rows_closed, rows_seen}
use Rattle.chart_rows.specs.Strips.{blank}
use Rattle.chart_feed.specs.WindowStrips.{closed_below}
use Rattle.chart_rows.proofs.RowLaws.{seen-rows}
use Rattle.chart_rows.proofs.RowParts.{rows-listed}
use Rattle.chart_feed.proofs.Stepping.{passed}
use Rattle.chart_feed.proofs.columns.pass_tick.Goals as goal

pub see-requires-clause-listed : goal.see-requires-clause-listed
see-requires-clause-listed c = rows-listed (group_of c.args.afresh.now) _ _ c.args.rows.now c.requires.4.rows_are

pub see-requires-clause-at : goal.see-requires-clause-at
see-requires-clause-at c = (c.requires.0, c.requires.4.at)

pub close-requires-clause-listed : goal.close-requires-clause-listed
close-requires-clause-listed c =
    let g = group_of c.args.afresh.now in
    let past = c.requires.0 in
    let has = c.requires.4 in
    rows-listed g _ _ c.see.new.self (c.in_ok-see.ensures past has.at ∙ ap (rows_seen g past) has.rows_are ∙ seen-rows g (closed_below c.requires.1 past c.requires.3) blank past)

pub close-requires-clause-at : goal.close-requires-clause-at
close-requires-clause-at c = (c.requires.0, c.requires.4.at)

pub returns : goal.returns
returns c =
    on_ok_weaker c.close.result (λ closed past window now tick has later inside. record {
      at = has.at;
      clock_is = has.clock_is;
      rows_are =
          closed past has.at ∙ ap (rows_closed (group_of c.args.afresh.now) past) (c.in_ok-see.ensures past has.at)
          ∙ passed (group_of c.args.afresh.now) window past c.args.rows.now tick (subst (λ n. n < tick) has.clock_is later) inside has.rows_are;
    }) c.close.ensures
