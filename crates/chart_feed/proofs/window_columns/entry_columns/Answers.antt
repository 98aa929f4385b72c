use Rattle.std.proofs.Common.{◌∙◌, ◌<◌, ◌≤◌, All, ap, arith, subst, sym}
use Rattle.rt_base.specs.declared.TheConstants.{TICK_END}
use Rattle.chart_feed.specs.EntryClocks.{EntriesKept, entry_clocks, first_at}
use Rattle.chart_feed.specs.WindowStrips.{ticks_in}
use Rattle.chart_feed.specs.Times.{edges_in}
use Rattle.chart_feed.proofs.Clocked.{after-window, first-low}
use Rattle.chart_feed.proofs.Edges.{edges-entries}
use Rattle.chart_feed.proofs.Paneled.{cut-low, entries-low, entry-highs, entry-labels}
use Rattle.chart_feed.proofs.window_columns.entry_columns.Goals as goal

pub edges_of-requires-clause-clocks : goal.edges_of-requires-clause-clocks
edges_of-requires-clause-clocks c =
    let past = c.requires.clocks.0 in
    let is = c.entries.view_is ∙ c.requires.clocks.2 in
    subst (All (λ n. n < TICK_END)) (sym (c.as_slice.ensures.value ∙ ap (λ (k : EntriesKept). k.clocks) is))
    (cut-low c.args.window (entry_clocks past) TICK_END (entries-low past TICK_END c.requires.clocks.1))

pub edges_of-requires-clause-first : goal.edges_of-requires-clause-first
edges_of-requires-clause-first c =
    let past = c.requires.clocks.0 in
    let is = ap (λ (k : EntriesKept). k.first) (c.entries.view_is ∙ c.requires.clocks.2) in
    let low : first_at 0 c.args.window.from (entry_clocks past) ≤ TICK_END = first-low 0 c.args.window.from (entry_clocks past) TICK_END (omega arith) (entries-low past TICK_END c.requires.clocks.1) in
    omega (arith, is, low)

pub returns : goal.returns
returns c = λ past low is.
    let w = c.args.window in
    let same = c.entries.view_is ∙ is in
    let clocks = c.as_slice.ensures.value ∙ ap (λ (k : EntriesKept). k.clocks) same in
    let after = ap (λ (k : EntriesKept). k.after) same ∙ sym (after-window w (entry_clocks past) c.requires.window) in
    record {
      labels_are = c.in_ok-labels.ensures ∙ ap (λ (k : EntriesKept). ticks_in w k.count) same ∙ entry-labels w past;
      clocks_are = ap (λ (k : EntriesKept). k.clocks) same ∙ entry-highs w past;
      edges_are = c.in_ok-edges.ensures.edges ∙ (λ i. edges_in ((same i).first) (clocks i) (after i)) ∙ sym (edges-entries w past);
      edges_low = c.in_ok-edges.ensures.low;
    }
