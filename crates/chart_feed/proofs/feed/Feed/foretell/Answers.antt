use Rattle.std.proofs.Common.{◌∙◌, ap, sym}
use Rattle.std.proofs.lemmas.Bool.{false≢true}
use Rattle.rank_afresh.specs.Standing.{group_of}
use Rattle.chart_rows.specs.Rows.{resvs_listed}
use Rattle.chart_rows.proofs.RowParts.{resvs-of}
use Rattle.chart_feed.proofs.Feeding.{inside-same}
use Rattle.chart_feed.proofs.feed.Feed.foretell.Goals as goal

pub returns-then-not-is_inside : goal.returns-then-not-is_inside
returns-then-not-is_inside c = λ axis window past tick clocked moved inside.
    absurd (false≢true (sym c.if-not-is_inside.true
    ∙ inside-same c.args.self.now axis window c.args.afresh.now tick past c.args.clock.0 c.is_inside.result c.is_inside.ensures clocked.clock_is moved ∙ inside))

pub foretell-requires-clause-rows : goal.foretell-requires-clause-rows
foretell-requires-clause-rows c =
    ap resvs_listed c.resvs_of.ensures ∙ resvs-of (group_of c.args.afresh.now) _ _ c.args.self.now.rows c.requires.moved.5.rows_are
