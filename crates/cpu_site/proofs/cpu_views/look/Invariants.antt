use Rattle.rt_plays.specs.Groups.{group_of, past}
use Rattle.cpu_site.proofs.CpuViewLaws.{AreSeen}
use Rattle.cpu_site.proofs.cpu_views.look.Given as goal

abbrev pub invariant-loop-cpu : goal.invariant-loop-cpu
invariant-loop-cpu l = AreSeen (group_of l.player) (past l.player) l.cpu_views.items l.cpu-index
