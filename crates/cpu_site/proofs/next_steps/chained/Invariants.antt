use Rattle.std.proofs.Common.{◌≤◌, length}
use Rattle.cpu_site.specs.StepChains.{IsChainedFrom}
use Rattle.cpu_site.proofs.next_steps.chained.Given as goal

abbrev pub invariant-loop-i : goal.invariant-loop-i
invariant-loop-i l = (l.i ≤ length l.steps) × IsChainedFrom l.steps l.cpus l.i l.firsts.items l.nexts.items

abbrev pub decreases-loop-i : goal.decreases-loop-i
decreases-loop-i l = l.i
