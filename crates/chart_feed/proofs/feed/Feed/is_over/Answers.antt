use Rattle.std.proofs.Common.{◌∙◌, ap, sym}
use Rattle.std.specs.Prelude.{nat_le, slice_get}
use Rattle.chart_feed.specs.EntryClocks.{EntriesKept, entry_clocks}
use Rattle.chart_feed.specs.Over.{is_before, is_over}
use Rattle.chart_feed.specs.declared.feed.Feed.{Feed}
use Rattle.chart_feed.proofs.feed.Feed.is_over.Goals as goal

pub returns-in-Ticks : goal.returns-in-Ticks
returns-in-Ticks c = λ axis w g past at fed.
    let of_axis = sym c.in-Ticks.is ∙ ap (λ (f : Feed). f.axis) c.self.view_is ∙ fed.axis_is in
    ap (λ (f : Feed). nat_le f.window.to c.args.clock.0) c.self.view_is ∙ (λ i. nat_le (fed.window_is i).to (at i)) ∙ ap (λ a. is_over a w past) of_axis

pub returns-in-Entries : goal.returns-in-Entries
returns-in-Entries c = λ axis w g past at fed.
    let of_axis = sym c.in-Entries.is ∙ ap (λ (f : Feed). f.axis) c.self.view_is ∙ fed.axis_is in
    c.is_before.ensures ∙ ap (λ (f : Feed). is_before c.args.clock.0 f.entries.after) c.self.view_is
    ∙ ap (λ (k : EntriesKept). is_before c.args.clock.0 k.after) fed.entries_are
    ∙ (λ i. is_before (at i) (slice_get (entry_clocks past) (fed.window_is i).to)) ∙ ap (λ a. is_over a w past) of_axis
