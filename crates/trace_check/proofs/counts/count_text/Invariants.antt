use Rattle.std.proofs.Common.{◌≡◌, ◌++◌, drop, map}
use Rattle.std.specs.Prelude.{flat_map}
use Rattle.trace_lines.specs.Grammar.{line_text}
use Rattle.trace_lines.specs.Known.{Known}
use Rattle.trace_tools.specs.BusCounters.{counters}
use Rattle.trace_tools.specs.Counters.{counter_line}
use Rattle.trace_check.proofs.counts.count_text.Given as goal

-- the lines so far, and those of the other tools
abbrev pub invariant-loop-i : goal.invariant-loop-i
invariant-loop-i g l =
    (k : Known) → l.text.items ++ flat_map (line_text k) (map counter_line (drop l.i (counters g.T.TraceTool.tool l.bus))) ≡ flat_map (line_text k) (map counter_line (counters g.T.TraceTool.tool l.bus))
