use Rattle.std.proofs.Common.{sym, ◌∙◌}
use Rattle.cluster_table.specs.Pending.{cluster_of}
use Rattle.cluster_table.proofs.PendingLaws.{can-exchange, exchange-links}
use Rattle.cluster_table.proofs.placing.place.Goals as goal

pub exchange-requires : goal.exchange-requires
exchange-requires c =
    let pending = rw c.in-One.is at c.requires.pending in
    record { placed = can-exchange (cluster_of c.args.queue.now c.args.links.now) c.in-One.change c.requires.fits pending (sym c.runs_any.ensures ∙ c.if-runs_any.false) }

pub returns-else-runs_any-clause-placed : goal.returns-else-runs_any-clause-placed
returns-else-runs_any-clause-placed c =
    let pending = rw c.in-One.is at c.requires.pending in
    exchange-links (cluster_of c.args.queue.now c.args.links.now) c.in-One.change c.requires.fits pending c.exchange.new.self c.exchange.ensures.placed
