use Rattle.chart_texts.proofs.Bars.{bars_agree_lem}
use Rattle.chart_texts.proofs.bars_agree.Goals as goal

pub returns : goal.returns
returns c = bars_agree_lem
