use Rattle.std.proofs.Common.{◌≡◌, ◌∷◌, sym, subst}
use Rattle.std.specs.Prelude.{OnOk}
use Rattle.rt_model.specs.Past.{Clock, Past}
use Rattle.rank_afresh.specs.Standing.{group_of}
use Rattle.chart_texts.specs.declared.window.Axis.{Axis}
use Rattle.chart_rows.specs.Rows.{rows_of}
use Rattle.chart_feed.specs.inside.Stands.{HasRows}
use Rattle.chart_feed.specs.WindowStrips.{closed, open_at, open_turned}
use Rattle.chart_feed.proofs.Stepping.{turned-by-entries}
use Rattle.chart_feed.proofs.columns.turn.Goals as goal

pub returns-in-Ticks : goal.returns-in-Ticks
returns-in-Ticks c =
    let v = c.args.afresh.now in
    let w = c.args.window in
    subst (λ (a : Axis). OnOk c.turn_ticks.result ((past : Past) → HasRows v past c.args.now (closed a w past) (open_at a w past) c.args.rows.now
    → HasRows v past c.args.now (closed a w (Clock c.args.tick ∷ past)) (open_turned a w c.args.tick past) c.turn_ticks.new.rows)) (sym c.in-Ticks.is) c.turn_ticks.ensures

pub returns-in-Entries : goal.returns-in-Entries
returns-in-Entries c = λ past has.
    let g = group_of c.args.afresh.now in
    let w = c.args.window in
    let rows = c.args.rows.now in
    record {
      at = has.at;
      clock_is = has.clock_is;
      rows_are =
          subst (λ (a : Axis). rows ≡ rows_of g (closed a w past) (open_at a w past) → rows ≡ rows_of g (closed a w (Clock c.args.tick ∷ past)) (open_turned a w c.args.tick past))
          (sym c.in-Entries.is) (turned-by-entries g w past rows c.args.tick) has.rows_are;
    }
