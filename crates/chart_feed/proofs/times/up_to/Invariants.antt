use Rattle.std.proofs.Common.{◌≡◌, take}
use Rattle.chart_feed.specs.Times as seen
use Rattle.chart_feed.proofs.times.up_to.Given as goal

-- those so far are counted
abbrev pub invariant-loop-other : goal.invariant-loop-other
invariant-loop-other l = l.count ≡ seen.up_to l.clock (take l.other-index l.clocks)
