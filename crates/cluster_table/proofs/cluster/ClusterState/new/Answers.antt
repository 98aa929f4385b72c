use Rattle.std.proofs.Common.{arith}
use Rattle.std.proofs.lemmas.List.{length-replicate}
use Rattle.cluster_table.proofs.Stable.{stable-fresh}
use Rattle.cluster_table.proofs.cluster.ClusterState.new.Goals as goal

pub returns-in_err-queue-clause-stable : goal.returns-in_err-queue-clause-stable
returns-in_err-queue-clause-stable c = stable-fresh c.args.first.0 c.args.cpus c.args.room

pub returns-in_err-links-clause-stable : goal.returns-in_err-links-clause-stable
returns-in_err-links-clause-stable c = stable-fresh c.args.first.0 c.args.cpus c.args.room

pub returns-in_err-top-clause-stable : goal.returns-in_err-top-clause-stable
returns-in_err-top-clause-stable c = stable-fresh c.args.first.0 c.args.cpus c.args.room

pub returns-clause-stable : goal.returns-clause-stable
returns-clause-stable c = stable-fresh c.args.first.0 c.args.cpus c.args.room

pub invariant_of-result : goal.invariant_of-result
invariant_of-result c =
    let queue = c.in_ok-queue.ensures in
    let links = c.in_ok-links.ensures.unlinked in (
      rw (queue, links, length-replicate),
      rw queue (omega (arith, c.in_ok-top.ensures.capacity)),
      c.in_ok-links.ensures.sound,
      rw (queue, links) (stable-fresh c.args.first.0 c.args.cpus c.args.room),
    )
