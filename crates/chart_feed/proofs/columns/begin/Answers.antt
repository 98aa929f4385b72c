use Rattle.std.proofs.Common.{◌≡◌, ◌∙◌, [], ap, subst, sym}
use Rattle.std.specs.Prelude.{OnOk}
use Rattle.rank_afresh.specs.Standing.{group_of}
use Rattle.chart_texts.specs.declared.window.Axis.{Axis}
use Rattle.chart_rows.specs.Rows.{rows_of}
use Rattle.chart_feed.specs.WindowStrips.{closed, open_at}
use Rattle.chart_feed.proofs.Stepping.{begun-entries}
use Rattle.chart_feed.proofs.columns.begin.Goals as goal

pub returns-in-Ticks : goal.returns-in-Ticks
returns-in-Ticks c =
    let g = group_of c.args.afresh.now in
    subst (λ (a : Axis). OnOk c.begin_ticks.result (c.begin_ticks.new.rows ≡ rows_of g (closed a c.args.window []) (open_at a c.args.window []))) (sym c.in-Ticks.is) c.begin_ticks.ensures

pub returns-in-Entries : goal.returns-in-Entries
returns-in-Entries c =
    let g = group_of c.args.afresh.now in
    begun-entries g c.args.window c.args.rows.now c.requires.rows ∙ ap (λ (a : Axis). rows_of g (closed a c.args.window []) (open_at a c.args.window [])) (sym c.in-Entries.is)
