use Rattle.std.proofs.Common.{◌∙◌, ap}
use Rattle.chart_rows.specs.Rows.{CpuKept}
use Rattle.span_feed.specs.declared.feed.SpanFeed.{SpanFeed}
use Rattle.span_feed.proofs.Spent.{kept-worked}
use Rattle.span_feed.proofs.feed.SpanFeed.has_worked.Goals as goal

pub returns-in-Some : goal.returns-in-Some
returns-in-Some c = λ g past fed told.
    let row : CpuKept = c.index-cpus-place.result in
    let at = c.in-Some.ensures in
    kept-worked g past c.args.self.now.rows c.as_slice-cpus.result.now c.in-Some.place c.args.cpu.0 row fed.0.spans.rows_are (c.as_slice-cpus.ensures.value ∙ ap (λ (f : SpanFeed). f.rows.cpus) c.self.view_is) at.0 (at.1 row) (λ none. c.has_unit.ensures told (ap (λ (k : CpuKept). k.kept) c.index-cpus-place.is ∙ none))
