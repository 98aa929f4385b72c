use Rattle.std.proofs.Common.{◌≡◌, ◌+◌, ◌<◌, ◌++◌, All, drop, map}
use Rattle.rt_base.specs.declared.TheConstants.{TICK_END}
use Rattle.chart_feed.specs.declared.times.Edges.{Edges}
use Rattle.chart_feed.specs.inside.Marked.{edges_shown}
use Rattle.chart_feed.specs.Times as seen
use Rattle.chart_feed.proofs.marking.edges_of.Given as goal

-- those so far, and those of the rest of the clocks, are all of them
abbrev pub invariant-loop-i : goal.invariant-loop-i
invariant-loop-i l = record {
  edges : map edges_shown l.edges.items ++ seen.edges_in l.begins (drop l.i l.clocks) l.after ≡ seen.edges_in l.first l.clocks l.after;
  low : All (λ (e : Edges). (e.first < TICK_END + 1) × (e.high < TICK_END + 1)) l.edges.items;
  begins : l.begins < TICK_END + 1;
}
