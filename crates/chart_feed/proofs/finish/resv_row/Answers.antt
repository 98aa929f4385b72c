use Rattle.std.proofs.Common.{◌∙◌, ap}
use Rattle.chart_texts.specs.Charts.{resv_row_in}
use Rattle.chart_rows.specs.Rows.{ResvKept}
use Rattle.chart_feed.proofs.Moves.{resv-cells}
use Rattle.chart_feed.proofs.finish.resv_row.Goals as goal

pub returns : goal.returns
unfolding resv_row_in
returns c = λ g cs is i. record {
  resv = ap (λ (k : ResvKept). k.resv) c.row.view_is i;
  left = (ap (λ (k : ResvKept). k.left) (c.row.view_is ∙ is) ∙ resv-cells g c.args.row.resv cs) i;
}
