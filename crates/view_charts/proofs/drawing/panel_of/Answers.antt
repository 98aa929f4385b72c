use Rattle.std.proofs.Common.{◌≡◌, ◌∙◌, ◌-◌, List, [], ap, drop, length, length-drop, refl, subst, sym, take, arith}
use Rattle.std.specs.Prelude.{IfOk}
use Rattle.std.proofs.lemmas.List.{take_all}
use Rattle.std.proofs.lemmas.Result.{IfOk-weaker}
use Rattle.rt_rules.specs.declared.history.Entry.{Entry}
use Rattle.rt_model.specs.Group.{Group}
use Rattle.rt_model.specs.Histories.{past_from, past_of}
use Rattle.rt_model.specs.Past.{Past, now}
use Rattle.rt_plays.specs.Plays.{group_with}
use Rattle.chart_cells.specs.Charts.{panel_shown}
use Rattle.chart_feed.specs.Feeds.{IsFed}
use Rattle.chart_feed.proofs.WindowOver.{panel-shown}
use Rattle.chart_texts.specs.Charts as charts
use Rattle.chart_texts.specs.Windows.{columns_in}
use Rattle.chart_texts.specs.declared.window.Window.{Window}
use Rattle.view_charts.proofs.drawing.panel_of.Goals as goal

pub close-requires-clause-clock : goal.close-requires-clause-clock
close-requires-clause-clock c = c.now-clock.ensures.low _ (c.in_ok-taken.ensures.drawn c.args.axis c.args.window [] c.in_ok-drawing.ensures.drawn).drawn.at

pub close-requires-clause-from : goal.close-requires-clause-from
close-requires-clause-from c =
    let taken = c.in_ok-taken.ensures.drawn c.args.axis c.args.window [] c.in_ok-drawing.ensures.drawn in
    omega (arith, ap (λ (w : Window). w.from) taken.drawn.fed.window_is, c.requires.window.some, c.requires.window.low)

pub close-requires-clause-window : goal.close-requires-clause-window
close-requires-clause-window c =
    let taken = c.in_ok-taken.ensures.drawn c.args.axis c.args.window [] c.in_ok-drawing.ensures.drawn in
    omega (arith, ap (λ (w : Window). w.from) taken.drawn.fed.window_is, ap (λ (w : Window). w.to) taken.drawn.fed.window_is, c.requires.window.some)

pub close-requires-clause-fed : goal.close-requires-clause-fed
close-requires-clause-fed c =
    let taken = c.in_ok-taken.ensures.drawn c.args.axis c.args.window [] c.in_ok-drawing.ensures.drawn in
    let early = taken.early in (
      c.args.axis,
      c.args.window,
      early,
      record { at = c.afresh.ensures.at early taken.drawn.at; clock_is = c.now-clock.ensures.at early taken.drawn.at },
      subst (λ (g : Group). IsFed c.args.axis c.args.window g early c.take.new.self.feed) (sym c.afresh.ensures.group) taken.drawn.fed,
    )

pub returns : goal.returns
unfolding past_of
returns c =
    let axis = c.args.axis in
    let w = c.args.window in
    let es = c.args.entries.now in
    let g : Group = group_with c.args.setup.now c.args.group.0 in
    let n = c.in_ok-taken.taken in
    let taken = c.in_ok-taken.ensures.drawn axis w [] c.in_ok-drawing.ensures.drawn in
    let early : Past = taken.early in
    let shown = charts.panel_of g (columns_in axis w early) early in
    let first = c.in_ok-drawing.ensures.group in
    let same = c.afresh.ensures.group ∙ c.in_ok-taken.ensures.group ∙ first in
    let made : IfOk c.close.result (λ p. panel_shown p ≡ shown) =
    IfOk-weaker c.close.result _ _ (λ p are.
    are axis w early (record { at = c.afresh.ensures.at early taken.drawn.at; clock_is = c.now-clock.ensures.at early taken.drawn.at })
    (subst (λ (x : Group). IsFed axis w x early c.take.new.self.feed) (sym c.afresh.ensures.group) taken.drawn.fed)
    ∙ ap (λ (x : Group). charts.panel_of x (columns_in axis w early) early) same) c.close.ensures in
    let rest : take (length es - n) (drop n es) ≡ drop n es = take_all (length es - n) (drop n es) (omega (arith, length-drop n es)) in
    let last : c.clock_after-last.result.0 ≡ now (past_from g early (drop n es)) =
    c.clock_after-last.ensures g early (c.now-clock.ensures.at early taken.drawn.at) ∙ ap (λ (xs : List Entry). now (past_from g early xs)) rest in
    let all : past_from g early (drop n es) ≡ past_from g [] es =
    ap (λ (x : Group). past_from x early (drop n es)) (sym first) ∙ taken.others ∙ ap (λ (x : Group). past_from x [] es) first in
    IfOk-weaker c.ending_at.result _ _ (λ p is.
    is ∙ panel-shown g axis w early (drop n es) c.parts-parts.ensures.valid (omega (arith, c.requires.window.some)) taken.drawn.fed.whole shown c.clock_after-last.result.0 refl last taken.stopped
    ∙ ap (λ (x : Past). charts.panel_of g (columns_in axis w x) x) all) (c.ending_at.ensures shown made)
