use Rattle.rt_changes.proofs.rankings.SameReservations as laws
use Rattle.rt_changes.proofs.clusters.reservations_after_act.Goals as goal

pub returns : goal.returns
returns c = laws.reservations_after_act
