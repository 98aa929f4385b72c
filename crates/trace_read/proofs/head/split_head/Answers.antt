use Rattle.std.proofs.Common.{inr, refl}
use Rattle.trace_read.proofs.ReadLaws.{LacksSetLine-other, LacksSetLine-no_feed}
use Rattle.trace_read.proofs.head.split_head.Goals as goal

pub returns-in_default-after : goal.returns-in_default-after
returns-in_default-after c = inr (refl, LacksSetLine-other c.in-Some.version c.args.bytes.now c.in-Some.second.now c.in-Some.ensures c.in_default-after.ensures)

pub returns-in-None : goal.returns-in-None
returns-in-None c = inr (refl, LacksSetLine-no_feed c.in-Some.version c.args.bytes.now c.in-Some.second.now c.in-Some-after.line.now c.in-Some.ensures c.in-Some-after.ensures c.in-None.ensures)
