use Rattle.std.proofs.Common.{◌∙◌, sym}
use Rattle.view_acts.specs.ShownActs.{act_shown}
use Rattle.rank_afresh.specs.Standing.{group_of}
use Rattle.chart_feed.proofs.Stepping.{acted-outside-window}
use Rattle.chart_feed.proofs.columns.take_act.Goals as goal

pub put_act-requires : goal.put_act-requires
put_act-requires c = (
  c.requires.0,
  c.requires.1,
  record { at = c.requires.2.at; inside_is = sym c.if-inside.true ∙ c.requires.2.inside_is; told = λ h. c.requires.2.told c.if-inside.true; rows_are = c.requires.2.rows_are },
)

pub returns-else-inside : goal.returns-else-inside
returns-else-inside c = λ window past can.
    acted-outside-window (group_of c.args.afresh.now) window past c.args.rows.now (act_shown c.args.act.now) c.args.axis (sym can.inside_is ∙ c.if-inside.false) can.rows_are
