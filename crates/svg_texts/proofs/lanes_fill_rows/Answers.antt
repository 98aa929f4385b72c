use Rattle.svg_texts.proofs.Lanes.{lanes_fill_rows_lem}
use Rattle.svg_texts.proofs.lanes_fill_rows.Goals as goal

pub returns : goal.returns
returns c = lanes_fill_rows_lem
