use Rattle.std.proofs.Common.{◌∙◌, sym}
use Rattle.rank_afresh.specs.Standing.{group_of}
use Rattle.chart_rows.proofs.RowParts.{rows-listed}
use Rattle.chart_feed.proofs.Stepping.{ended-inside, ended-outside}
use Rattle.chart_feed.proofs.columns.end_tick.Goals as goal

pub close-requires-clause-listed : goal.close-requires-clause-listed
close-requires-clause-listed c = rows-listed (group_of c.args.afresh.now) _ _ c.args.rows.now c.requires.1.rows_are

pub close-requires-clause-at : goal.close-requires-clause-at
close-requires-clause-at c = (c.requires.0, c.requires.1.at)

pub returns-in_ok-close : goal.returns-in_ok-close
returns-in_ok-close c = λ past has. record {
  at = has.at;
  clock_is = has.clock_is;
  rows_are =
      c.in_ok-close.ensures past has.at
      ∙ ended-inside (group_of c.args.afresh.now) c.args.window past c.args.rows.now c.args.now has.clock_is (sym c.is_in.ensures ∙ c.if-is_in.true) has.rows_are;
}

pub returns-else-is_in : goal.returns-else-is_in
returns-else-is_in c = λ past has. record {
  at = has.at;
  clock_is = has.clock_is;
  rows_are = ended-outside (group_of c.args.afresh.now) c.args.window past c.args.rows.now c.args.now has.clock_is (sym c.is_in.ensures ∙ c.if-is_in.false) has.rows_are;
}
