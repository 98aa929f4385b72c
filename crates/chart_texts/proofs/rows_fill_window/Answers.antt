use Rattle.chart_texts.proofs.Widths.{rows_fill_window_lem}
use Rattle.chart_texts.proofs.rows_fill_window.Goals as goal

pub returns : goal.returns
returns c = rows_fill_window_lem
