use Rattle.std.proofs.Common.{◌≡◌, ◌+◌, ◌++◌, ◌≤◌, List, length, vec_capacity}
use Rattle.rt_base.specs.declared.TheConstants.{MOST_CPUS}
use Rattle.cpu_site.specs.Seats.{CpuSeatView}
use Rattle.cpu_site.proofs.Returning.{AreBack}
use Rattle.cpu_site.proofs.site.Site.close.Given as goal

-- the seats that are gone were put back
abbrev pub invariant-loop-seat : goal.invariant-loop-seat
invariant-loop-seat l =
    ((gone : List CpuSeatView) × (l.initial.seats.items ≡ l.seats.items ++ gone) × AreBack l.turn.cell gone l.back.items)
    × (length l.back.items + length l.seats.items ≤ MOST_CPUS)
    × (MOST_CPUS ≤ vec_capacity l.back)

abbrev pub decreases-loop-seat : goal.decreases-loop-seat
decreases-loop-seat l = goal.left-loop-seat l
