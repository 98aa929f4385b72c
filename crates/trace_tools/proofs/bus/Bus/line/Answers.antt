use Rattle.trace_lines.specs.Grammar.{line_text}
use Rattle.trace_tools.specs.BusCounters.{counter}
use Rattle.trace_tools.specs.Counters.{counter_line}
use Rattle.trace_tools.proofs.LineLaws.{line-mapped}
use Rattle.trace_tools.proofs.bus.Bus.line.Goals as goal

pub returns : goal.returns
returns g c k =
    line-mapped (counter g.T.TraceTool.tool) (λ s. line_text k (counter_line s)) (λ v. v.items) c.args.self.now.counters.items c.args.i c.index.result.now c.line.result c.requires c.index.ensures (c.line.ensures k)
