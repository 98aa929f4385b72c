use Rattle.std.proofs.Common.{◌∙◌, ap}
use Rattle.chart_texts.specs.Charts.{cpu_row_in}
use Rattle.chart_rows.specs.Rows.{CpuKept}
use Rattle.chart_feed.proofs.Moves.{cpu-cells}
use Rattle.chart_feed.proofs.finish.cpu_row.Goals as goal

pub returns : goal.returns
unfolding cpu_row_in
returns c = λ g cs is i. record {
  cpu = ap (λ (k : CpuKept). k.cpu) c.row.view_is i;
  cells = (ap (λ (k : CpuKept). k.cells) (c.row.view_is ∙ is) ∙ cpu-cells g c.args.row.cpu cs) i;
}
