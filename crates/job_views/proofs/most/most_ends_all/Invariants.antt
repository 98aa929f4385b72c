use Rattle.std.proofs.Common.{◌≡◌, take}
use Rattle.block_counts.specs.SeenWords.{tallies_of}
use Rattle.job_facts.specs.Sums.{most_ends_all}
use Rattle.job_views.proofs.most.most_ends_all.Given as goal

abbrev pub invariant-loop-seen : goal.invariant-loop-seen
invariant-loop-seen l = l.most ≡ most_ends_all l.task.0 (tallies_of (take l.seen-index l.requests))
