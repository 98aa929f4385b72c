use Rattle.std.proofs.Common.{◌≡◌, take}
use Rattle.std.specs.Prelude.{count_by, nat_le}
use Rattle.job_views.proofs.due.arrived_by.Given as goal

abbrev pub invariant-loop-arrival : goal.invariant-loop-arrival
invariant-loop-arrival l = l.count ≡ count_by (λ r. nat_le r l.clock) (take l.arrival-index l.arrivals)
