use Rattle.rt_plays.specs.Groups.{group_of, past}
use Rattle.cpu_site.proofs.CpuViewLaws.{AreCounted}
use Rattle.cpu_site.proofs.cpu_views.count_raises.Given as goal

abbrev pub invariant-loop-i : goal.invariant-loop-i
invariant-loop-i l = AreCounted (group_of l.player) (past l.player) l.fn.cpu_views.items l.cpu_views.items l.fn.counts.items l.counts.items l.i
