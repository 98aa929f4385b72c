use Rattle.std.proofs.Common.{◌∙◌, ap, map, sym, subst}
use Rattle.std.proofs.lemmas.Result.{on_ok_weaker}
use Rattle.rank_afresh.specs.Standing.{group_of}
use Rattle.chart_texts.specs.declared.window.Axis.{Axis}
use Rattle.chart_texts.specs.Windows.{columns_in}
use Rattle.chart_rows.specs.Rows.{rows_of}
use Rattle.chart_feed.specs.inside.Stands.{HasRows}
use Rattle.chart_rows.specs.Strips.{blank, strip_of}
use Rattle.chart_feed.specs.WindowStrips.{closed, open_at}
use Rattle.chart_feed.proofs.Stepping.{finished-entries, finished-ticks}
use Rattle.chart_feed.proofs.columns.end.Goals as goal

pub returns-in-Ticks : goal.returns-in-Ticks
returns-in-Ticks c =
    on_ok_weaker c.end_tick.result (λ ended past has.
    let v = c.args.afresh.now in
    let w = c.args.window in
    let before = subst (λ (a : Axis). HasRows v past c.args.now (closed a w past) (open_at a w past) c.args.rows.now) c.in-Ticks.is has in
    finished-ticks (group_of v) w past c.end_tick.new.rows c.args.now has.clock_is (ended past before).rows_are
    ∙ ap (λ (a : Axis). rows_of (group_of v) (map strip_of (columns_in a w past)) blank) (sym c.in-Ticks.is)) c.end_tick.ensures

pub returns-in-Entries : goal.returns-in-Entries
returns-in-Entries c = λ past has.
    let v = c.args.afresh.now in
    let w = c.args.window in
    let before = subst (λ (a : Axis). HasRows v past c.args.now (closed a w past) (open_at a w past) c.args.rows.now) c.in-Entries.is has in
    finished-entries (group_of v) w past c.args.rows.now before.rows_are
    ∙ ap (λ (a : Axis). rows_of (group_of v) (map strip_of (columns_in a w past)) blank) (sym c.in-Entries.is)
