use Rattle.std.proofs.Common.{◌∙◌, [], ap}
use Rattle.rank_afresh.specs.Standing.{group_of}
use Rattle.chart_rows.specs.Rows.{resvs_listed}
use Rattle.chart_rows.proofs.RowParts.{resvs-of}
use Rattle.span_feed.specs.declared.feed.SpanFeed.{SpanFeed}
use Rattle.span_feed.proofs.Spent.{spent-none, worked-same}
use Rattle.span_feed.proofs.feed.SpanFeed.foretell.Goals as goal

pub returns-then-has_worked : goal.returns-then-has_worked
returns-then-has_worked c = λ past at.
    let g = group_of c.args.afresh.now in
    let before = c.requires.fed.0 in
    let worked = c.has_worked.ensures g before c.requires.fed.2 c.if-has_worked.true in
    spent-none g c.args.cpu.0 c.args.act past (worked-same c.args.afresh.now c.args.cpu.0 before past c.requires.cpu c.requires.fed.1 at worked)

pub foretell-requires-clause-rows : goal.foretell-requires-clause-rows
foretell-requires-clause-rows c =
    ap resvs_listed c.as_slice.ensures.value ∙ ap (λ (f : SpanFeed). resvs_listed f.rows.resvs) c.self.view_is ∙ resvs-of (group_of c.args.afresh.now) [] _ c.args.self.now.rows c.requires.fed.2.0.spans.rows_are
