use Rattle.std.proofs.Common.{◌≡◌, ◌∙◌, ◌+◌, ◌<◌, ◌≤◌, All, None, ap, arith, subst, suc, sym}
use Rattle.rt_base.specs.declared.TheConstants.{TICK_END}
use Rattle.rt_model.specs.Past.{now}
use Rattle.chart_feed.specs.WindowStrips.{ticks_in}
use Rattle.chart_feed.specs.Times.{edges_in}
use Rattle.chart_feed.proofs.Edges.{edges-ticks}
use Rattle.chart_feed.proofs.Paneled.{tick-clocks, tick-labels, ticks-low}
use Rattle.chart_feed.proofs.window_columns.tick_columns.Goals as goal

pub edges_of-requires-clause-clocks : goal.edges_of-requires-clause-clocks
edges_of-requires-clause-clocks c =
    let few : c.args.now + 1 ≤ TICK_END = omega (arith, c.requires.now) in
    subst (All (λ n. n < TICK_END)) (sym (c.as_slice.ensures.value ∙ c.in_ok-clocks.ensures)) (ticks-low c.args.window (c.args.now + 1) TICK_END few)

pub returns : goal.returns
returns c = λ past is.
    let w = c.args.window in
    let next : c.args.now + 1 ≡ suc (now past) = omega (arith, is) in
    let same = ap (ticks_in w) next in
    record {
      labels_are = c.in_ok-labels.ensures ∙ same ∙ tick-labels w past;
      clocks_are = c.in_ok-clocks.ensures ∙ same ∙ tick-clocks w past;
      edges_are = c.in_ok-edges.ensures.edges ∙ ap (λ cs. edges_in w.from cs None) (c.as_slice.ensures.value ∙ c.in_ok-clocks.ensures ∙ same) ∙ sym (edges-ticks w past);
      edges_low = c.in_ok-edges.ensures.low;
    }
