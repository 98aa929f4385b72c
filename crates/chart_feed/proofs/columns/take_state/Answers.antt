use Rattle.std.proofs.Common.{◌∙◌, ◌∷◌, sym}
use Rattle.rt_model.specs.Past.{Clock}
use Rattle.rank_afresh.specs.Standing.{group_of}
use Rattle.chart_rows.proofs.RowParts.{rows-listed}
use Rattle.chart_feed.proofs.Stepping.{moved-inside, moved-not}
use Rattle.chart_feed.proofs.columns.take_state.Goals as goal

pub see-requires-clause-listed : goal.see-requires-clause-listed
see-requires-clause-listed c = rows-listed (group_of c.args.afresh.now) _ _ c.args.rows.now c.requires.4.rows_are

pub see-requires-clause-at : goal.see-requires-clause-at
see-requires-clause-at c = (_, c.requires.4.at)

pub returns-in_ok-see : goal.returns-in_ok-see
returns-in_ok-see c = λ axis window tick past can.
    c.in_ok-see.ensures (Clock tick ∷ past) can.at
    ∙ moved-inside (group_of c.args.afresh.now) window past c.args.rows.now axis tick (sym can.inside_is ∙ c.if-inside.true) can.rows_are

pub returns-else-inside : goal.returns-else-inside
returns-else-inside c = λ axis window tick past can.
    moved-not (group_of c.args.afresh.now) window past c.args.rows.now axis tick c.args.inside c.args.begun can.inside_is can.begun_is c.else-inside.either can.rows_are
