use Rattle.std.proofs.Common.{vec_capacity}
use Rattle.cpu_site.proofs.Seating as seating
use Rattle.cpu_site.proofs.site.seated.Goals as goal

pub invariant_of-result : goal.invariant_of-result
invariant_of-result c = seating.seated c.args.seat c.args.cpu.0 c.args.position c.args.count c.in_ok-counts.counts.items (vec_capacity c.in_ok-raised.raised) c.requires.seat c.requires.position c.in_ok-counts.ensures c.in_ok-raised.ensures.1 c.start.result c.start.ensures
