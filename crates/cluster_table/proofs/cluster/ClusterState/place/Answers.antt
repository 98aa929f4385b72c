use Rattle.std.proofs.Common.{arith}
use Rattle.cluster_table.proofs.Stable.{stable-relinked}
use Rattle.cluster_table.specs.Pending.{cluster_of}
use Rattle.cluster_table.proofs.cluster.ClusterState.place.Goals as goal

pub invariant_of-self : goal.invariant_of-self
invariant_of-self c = (
  rw c.place.ensures.placed c.self.invariant.0,
  omega (arith, c.self.invariant.1, c.place.ensures.same_room),
  c.place.ensures.sound,
  rw c.place.ensures.placed (stable-relinked (cluster_of c.self.inside.queue c.self.inside.links) c.self.invariant.2 c.self.invariant.0),
)

pub returns-clause-stable : goal.returns-clause-stable
returns-clause-stable c = (invariant_of-self c).3
