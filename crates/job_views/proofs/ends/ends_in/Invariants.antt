use Rattle.std.proofs.Common.{◌≡◌, ◌*◌, ◌^◌, ◌≤◌, take}
use Rattle.block_counts.specs.SeenWords.{tallies_of}
use Rattle.job_facts.specs.Rows.{ends_in}
use Rattle.job_views.proofs.ends.ends_in.Given as goal

abbrev pub invariant-loop-position : goal.invariant-loop-position
invariant-loop-position l = (l.ends ≡ ends_in (tallies_of l.requests) (take l.position-index l.positions)) × (l.ends ≤ 2 ^ 32 * l.position-index)
