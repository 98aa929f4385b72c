use Rattle.std.proofs.Common.{◌<◌, arith, subst, sym}
use Rattle.std.proofs.lemmas.Result.{IfOk-weaker}
use Rattle.rt_base.specs.declared.TheConstants.{TICK_END}
use Rattle.rt_model.specs.Past.{now}
use Rattle.chart_texts.specs.declared.window.Axis.{Axis}
use Rattle.chart_texts.specs.Windows.{columns_in}
use Rattle.chart_feed.specs.inside.Panels.{AreColumns}
use Rattle.chart_feed.proofs.window_columns.columns_of.Goals as goal

pub returns-in-Ticks : goal.returns-in-Ticks
returns-in-Ticks c =
    IfOk-weaker c.tick_columns.result _ _ (λ v made past at is. subst (λ (a : Axis). AreColumns (columns_in a c.args.window past) v) (sym c.in-Ticks.is) (made past at)) c.tick_columns.ensures

pub returns-in-Entries : goal.returns-in-Entries
returns-in-Entries c =
    IfOk-weaker c.entry_columns.result _ _ (λ v made past at is.
    let low : now past < TICK_END = omega (arith, at, c.requires.low) in
    subst (λ (a : Axis). AreColumns (columns_in a c.args.window past) v) (sym c.in-Entries.is) (made past low is)) c.entry_columns.ensures
