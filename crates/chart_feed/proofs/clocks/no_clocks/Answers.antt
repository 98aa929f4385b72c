use Rattle.std.proofs.Common.{◌∙◌, sym}
use Rattle.chart_feed.proofs.Noted.{opened}
use Rattle.chart_feed.proofs.clocks.no_clocks.Goals as goal

pub returns-clause-opened : goal.returns-clause-opened
returns-clause-opened c = λ t low. c.loop.invariant.1 t low ∙ sym (opened t)
