use Rattle.std.proofs.Common.{◌∙◌, [], sym}
use Rattle.rank_afresh.specs.Standing.{group_of}
use Rattle.chart_rows.proofs.RowParts.{rows-listed}
use Rattle.chart_feed.proofs.Stepping.{begun-inside, begun-outside}
use Rattle.chart_feed.proofs.columns.begin_ticks.Goals as goal

pub see-requires-clause-listed : goal.see-requires-clause-listed
see-requires-clause-listed c = rows-listed (group_of c.args.afresh.now) _ _ c.args.rows.now c.requires.rows

pub see-requires-clause-at : goal.see-requires-clause-at
see-requires-clause-at c = ([], c.requires.at)

pub returns-in_ok-see : goal.returns-in_ok-see
returns-in_ok-see c = c.in_ok-see.ensures [] c.requires.at ∙ begun-inside (group_of c.args.afresh.now) c.args.window c.args.rows.now (sym c.is_in.ensures ∙ c.if-is_in.true) c.requires.rows

pub returns-else-is_in : goal.returns-else-is_in
returns-else-is_in c = begun-outside (group_of c.args.afresh.now) c.args.window c.args.rows.now (sym c.is_in.ensures ∙ c.if-is_in.false) c.requires.rows
