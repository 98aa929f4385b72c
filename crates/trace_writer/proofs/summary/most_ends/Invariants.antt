use Rattle.std.proofs.Common.{◌≡◌, drop}
use Rattle.std.specs.Prelude.{max}
use Rattle.block_counts.specs.SeenWords.{tallies_of}
use Rattle.trace_writer.specs.Summaries.{most_ends}
use Rattle.trace_writer.proofs.summary.most_ends.Given as goal

abbrev pub invariant-loop-seen : goal.invariant-loop-seen
invariant-loop-seen l = max l.most (most_ends (tallies_of (drop l.seen-index l.requests))) ≡ most_ends (tallies_of l.requests)
